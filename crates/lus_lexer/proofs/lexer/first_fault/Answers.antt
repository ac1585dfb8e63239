use Rattle.std.proofs.Common.{◌++◌, [], List, length, arith, append_assoc, subst, sym}
use Rattle.std.specs.Prelude.{option_to_list}
use Rattle.lus_lexer.specs.declared.token.Token.{Token}
use Rattle.lus_lexer.specs.Tokens.{byte, Lexes, whole, finish}
use Rattle.lus_lexer.proofs.lexer.first_fault.Goals as goal

pub loop-here-preserved : goal.loop-here-preserved
loop-here-preserved c = record {
  within = c.in-Ok.ensures.within.1;
  cursor = c.in-Ok.ensures.there;
  leads = record {
    front = c.loop-here.invariant.leads.front ++ option_to_list c.in-Ok.field-0-0;
    on = λ ts e h. subst (λ (x : List Token). Lexes (byte c.args.bytes.now) (length c.args.bytes.now) 0 x e)
        (sym (append_assoc c.loop-here.invariant.leads.front (option_to_list c.in-Ok.field-0-0) ts))
        (c.loop-here.invariant.leads.on _ e (c.in-Ok.ensures.step ts e h));
  };
}

pub returns : goal.returns
returns c = (_, c.loop-here.invariant.leads.on [] whole (finish (omega (arith, c.loop-here-test.false, c.loop-here.invariant.within))))
