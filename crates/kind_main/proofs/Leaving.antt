-- What a call leaves, from its answer and its printing.
use Rattle.std.proofs.Common.{◌≡◌, ◌==◌, ℕ, Bool, true, false, cond, ◌⊎◌, inl, inr, List, [], ◌∷◌, ◌++◌, codes, refl, sym, ap, ◌∙◌, subst, arith, append-nil}
use Rattle.std.specs.Io.KnownBytes.{Appends}
use Rattle.lus_tree.specs.Tree.{Program}
use Rattle.lus_meaning.specs.TraceView.{Listing}
use Rattle.kind_main.specs.declared.options.Options.{Options}
use Rattle.kind_main.specs.Given.{Given, AreGiven}
use Rattle.kind_main.proofs.Givens.{one_given}
use Rattle.kind_main.specs.Words as W
use Rattle.kind_main.specs.Words.{AreProve, AreReplay, AreNoCommand}
use Rattle.kind_main.specs.Lines.{Line, text_of, usage_line, memory_line, read_fault_line}
use Rattle.kind_main.specs.Report as R
use Rattle.kind_main.specs.Report.{code_of, IsReplayReport}
use Rattle.kind_main.specs.Verdicts.{Tally, tally_code, tally_of}
use Rattle.kind_main.specs.Proved.{IsProved}
use Rattle.kind_main.specs.Printing as P
use Rattle.kind_main.specs.Printing.{IsSaid, Printed}
use Rattle.kind_main.specs.Ending.{Ending, usage, unread, refused, done, Shows}
use Rattle.kind_main.specs.Fetched.{Tells}
use Rattle.kind_main.specs.Traced.{IsReplayed}
use Rattle.kind_main.specs.Answer as A
use Rattle.kind_main.specs.Answer.{EndsSo, IsAnswer}
use Rattle.kind_main.specs.Left as L
use Rattle.kind_main.specs.Left.{AreFirst, IsWhole, Leaves, Written, IsProofCode, IsReplayCode, IsProofDone, IsReplayDone, IsUsage, IsRefusal, IsUnread, IsBroken, IsShort, IsKnown}

-- ---- the words of one command are not those of another

same_more : (words a b : List (List ℕ)) → words ≡ codes "prove" ∷ a → words ≡ codes "prove" ∷ b → b ≡ a
same_more words a b e f = cc

one_file : (words : List (List ℕ)) (a b : List ℕ) (o q : Options) → AreProve words a o → AreProve words b q → a ≡ b
one_file words a b o q (W.no_words e f i) (W.no_words g h j) = f ∙ sym h
one_file words a b o q (W.no_words e f i) (W.command more given g h j k) = cc
one_file words a b o q (W.command more given e f i j) (W.no_words g h k) = cc
one_file words a b o q (W.command more given e f i j) (W.command others read g h k l) =
    let same = one_given more given read f (subst (λ ws. AreGiven ws read) (same_more words more others e g) h) in
    i ∙ (ap (λ (x : Given). W.file_or x.file) same ∙ sym k)

same_options : (words : List (List ℕ)) (a b : List ℕ) (o q : Options) → AreProve words a o → AreProve words b q → o ≡ q
same_options words a b o q (W.no_words e f i) (W.no_words g h j) = i ∙ sym j
same_options words a b o q (W.no_words e f i) (W.command more given g h j k) = cc
same_options words a b o q (W.command more given e f i j) (W.no_words g h k) = cc
same_options words a b o q (W.command more given e f i j) (W.command others read g h k l) =
    let same = one_given more given read f (subst (λ ws. AreGiven ws read) (same_more words more others e g) h) in
    j ∙ (ap (λ (x : Given). record { depth = W.depth_or x.depth; engines = W.engines_or x.engines }) same ∙ sym l)

not_both : (words : List (List ℕ)) (a : List ℕ) (o : Options) (file trace : List ℕ) → AreProve words a o → AreReplay words file trace → ⊥
not_both words a o file trace (W.no_words e f i) r = let g = r.spelled in cc
not_both words a o file trace (W.command more given e f i j) r = let g = r.spelled in cc

same_file : (words : List (List ℕ)) (a b c d : List ℕ) → AreReplay words a b → AreReplay words c d → a ≡ c
same_file words a b c d r s = let e = r.spelled in let f = s.spelled in cc

same_trace : (words : List (List ℕ)) (a b c d : List ℕ) → AreReplay words a b → AreReplay words c d → b ≡ d
same_trace words a b c d r s = let e = r.spelled in let f = s.spelled in cc

-- ---- statuses

proof_code : (t : Tally) → IsProofCode (tally_code t)
proof_code t = by (t.falsifiable == 0) (t.unknown == 0)
  where
    by : (a b : Bool) → IsProofCode (cond a (cond b 0 4) 1)
    by true true = inl refl
    by true false = inr (inr refl)
    by false b = inr (inl refl)

broken_code : (lines : List Line) → IsReplayCode (code_of lines)
broken_code [] = inr (inr refl)
broken_code (l ∷ ls) = inl refl

replay_code : (p : Program) (t : Listing) (lines : List Line) (code : ℕ) → IsReplayReport p t lines code → IsReplayCode code
replay_code p t lines code (R.stays r) = subst IsReplayCode (sym r.status) (broken_code r.broken)
replay_code p t lines code (R.passes r) = inr (inl r.status)

-- a command that was carried out
abbrev IsDoneCode : ℕ → Type 0
IsDoneCode code = IsProofCode code ⊎ IsReplayCode code

-- none of the other statuses
not_other : (code k : ℕ) → IsDoneCode code → code ≡ k → (k ≡ 2) ⊎ ((k ≡ 3) ⊎ ((k ≡ 5) ⊎ ((k ≡ 6) ⊎ (k ≡ 7)))) → ⊥
not_other code k d e o = elim d [
  | inl p ↦ elim p [ inl x ↦ omega arith | inr q ↦ elim q [ inl x ↦ omega arith | inr x ↦ omega arith ] ]
  | inr p ↦ elim p [ inl x ↦ omega arith | inr q ↦ elim q [ inl x ↦ omega arith | inr x ↦ omega arith ] ]
]

module _ (told : Tells) (before now : ℕ) (words : List (List ℕ)) (puts_before puts_now : ℕ) (old new : Written) where
  first_of : (lines first rest : List Line) (status : ℕ) → IsAnswer told before now words lines status → lines ≡ first ++ rest
      → AreFirst told before now words first
  first_of lines first rest status a e = L.some rest status (subst (λ ls. IsAnswer told before now words ls status) e a)

  -- an answer that was printed
  pub leaves_printed : (lines : List Line) (status code : ℕ) → IsAnswer told before now words lines status
      → Printed lines status puts_before puts_now old new code → Leaves told before now words puts_before puts_now old new code
  leaves_printed lines status code a (P.whole e w) = L.answer lines (subst (IsAnswer told before now words lines) (sym e) a) w
  leaves_printed lines status code a (P.broken e r w) = L.failed (text_of lines) e r (L.answered lines status a refl) w
  leaves_printed lines status code a (P.stopped first rest s e w) = L.no_memory first e (first_of lines first rest status a s) w
  leaves_printed lines status code a (P.lost first rest s e r w) = L.failed (text_of first ++ memory_line) e r
      (L.short first (first_of lines first rest status a s) refl) w

  -- no answer for want of memory
  pub leaves_without : (code : ℕ) → IsSaid puts_before puts_now old new code → Leaves told before now words puts_before puts_now old new code
  leaves_without code (P.said e w) = L.no_memory [] e (L.nothing refl) w
  leaves_without code (P.unsaid e r w) = L.failed memory_line e r (L.short [] (L.nothing refl) refl) w

  -- ---- status by status

  -- a command that was carried out has a status of its own
  done_code : (lines : List Line) (k : ℕ) → EndsSo told before now words (done lines k) → IsDoneCode k
  done_code lines k (A.no_command o e) = cc
  done_code lines k (A.prove file o m r) = inl (subst IsProofCode (sym r.proof.proof.status) (proof_code (tally_of r.proof.proof.verdicts)))
  done_code lines k (A.replay file trace m r) = inr (replay_code r.program r.listing lines k r.replay)

  line_alone : (lines : List Line) (line : Line) → lines ≡ line ∷ [] → Appends old new (text_of lines) → Appends old new line
  line_alone lines line e w = subst (Appends old new) (ap text_of e ∙ append-nil line) w

  proof_by : (lines : List Line) (code : ℕ) (e : Ending) → EndsSo told before now words e → Shows lines code e → Appends old new (text_of lines)
      → (file : List ℕ) (o : Options) → AreProve words file o → IsDoneCode code → IsProofDone o (told file) old new code
  proof_by lines code usage s h w file o m c = absurd (not_other code 2 c h.status (inl refl))
  proof_by lines code (unread name) s h w file o m c = absurd (not_other code 5 c h.status (inr (inr (inl refl))))
  proof_by lines code (refused line) s h w file o m c = absurd (not_other code 3 c h.status (inr (inl refl)))
  proof_by lines code (done ls j) (A.no_command u e) h w file o m c = cc
  proof_by lines code (done ls j) (A.replay f t r d) h w file o m c = absurd (not_both words file o f t m r)
  proof_by lines code (done ls j) (A.prove f q n d) h w file o m c = record {
    lines = lines;
    proved = subst (λ r. IsProved r (told file) lines code) (same_options words f file q o n m)
        (subst (λ x. IsProved q (told x) lines code) (one_file words f file q o n m)
        (subst (IsProved q (told f) lines) (sym h.status) (subst (λ l. IsProved q (told f) l j) (sym h.printed) d)));
    printed = w;
  }

  replay_by : (lines : List Line) (code : ℕ) (e : Ending) → EndsSo told before now words e → Shows lines code e → Appends old new (text_of lines)
      → (file trace : List ℕ) → AreReplay words file trace → IsDoneCode code → IsReplayDone told file trace old new code
  replay_by lines code usage s h w file trace m c = absurd (not_other code 2 c h.status (inl refl))
  replay_by lines code (unread name) s h w file trace m c = absurd (not_other code 5 c h.status (inr (inr (inl refl))))
  replay_by lines code (refused line) s h w file trace m c = absurd (not_other code 3 c h.status (inr (inl refl)))
  replay_by lines code (done ls j) (A.no_command o e) h w file trace m c = cc
  replay_by lines code (done ls j) (A.prove f q n d) h w file trace m c = absurd (not_both words f q file trace n m)
  replay_by lines code (done ls j) (A.replay f t n d) h w file trace m c = record {
    lines = lines;
    replayed = subst (λ x. IsReplayed told x trace lines code) (same_file words f t file trace n m)
        (subst (λ x. IsReplayed told f x lines code) (same_trace words f t file trace n m)
        (subst (IsReplayed told f t lines) (sym h.status) (subst (λ l. IsReplayed told f t l j) (sym h.printed) d)));
    printed = w;
  }

  usage_by : (lines : List Line) (code : ℕ) (e : Ending) → EndsSo told before now words e → Shows lines code e → Appends old new
      (text_of lines) → code ≡ 2 → IsUsage words old new
  usage_by lines code usage (A.no_command o e) h w c = record { other = o; printed = line_alone lines usage_line h.printed w }
  usage_by lines code usage (A.prove file o m r) h w c = absurd r
  usage_by lines code usage (A.replay file trace m r) h w c = absurd r
  usage_by lines code (unread name) s h w c = let k : code ≡ 5 = h.status in absurd (omega arith)
  usage_by lines code (refused line) s h w c = let k : code ≡ 3 = h.status in absurd (omega arith)
  usage_by lines code (done ls j) s h w c = absurd (not_other j 2 (done_code ls j s) (sym h.status ∙ c) (inl refl))

  refusal_by : (lines : List Line) (code : ℕ) (e : Ending) → EndsSo told before now words e → Shows lines code e → Appends old new
      (text_of lines) → code ≡ 3 → IsRefusal told words old new
  refusal_by lines code (refused line) (A.no_command o e) h w c = cc
  refusal_by lines code (refused line) (A.prove file o m r) h w c = record
      { line = line; cause = L.in_proof file o m r; printed = line_alone lines line h.printed w }
  refusal_by lines code (refused line) (A.replay file trace m r) h w c = record
      { line = line; cause = L.in_replay file trace m r; printed = line_alone lines line h.printed w }
  refusal_by lines code usage s h w c = let k : code ≡ 2 = h.status in absurd (omega arith)
  refusal_by lines code (unread name) s h w c = let k : code ≡ 5 = h.status in absurd (omega arith)
  refusal_by lines code (done ls j) s h w c = absurd (not_other j 3 (done_code ls j s) (sym h.status ∙ c) (inr (inl refl)))

  unread_by : (lines : List Line) (code : ℕ) (e : Ending) → EndsSo told before now words e → Shows lines code e → Appends old new
      (text_of lines) → code ≡ 5 → IsUnread told before now words old new
  unread_by lines code (unread name) (A.no_command o e) h w c = cc
  unread_by lines code (unread name) (A.prove file o m r) h w c =
      record { rose = r.0; name = name; which = L.in_proof file o m r.1; printed = line_alone lines (read_fault_line name) h.printed w }
  unread_by lines code (unread name) (A.replay file trace m r) h w c =
      record { rose = r.0; name = name; which = L.in_replay file trace m r.1; printed = line_alone lines (read_fault_line name) h.printed w }
  unread_by lines code usage s h w c = let k : code ≡ 2 = h.status in absurd (omega arith)
  unread_by lines code (refused line) s h w c = let k : code ≡ 3 = h.status in absurd (omega arith)
  unread_by lines code (done ls j) s h w c = absurd (not_other j 5 (done_code ls j s) (sym h.status ∙ c) (inr (inr (inl refl))))

  known_by : (lines : List Line) (code : ℕ) (e : Ending) → EndsSo told before now words e → Shows lines code e → IsKnown words code
  known_by lines code usage s h = L.of_no_command (inl h.status)
  known_by lines code (unread name) s h = L.of_no_command (inr (inr (inl h.status)))
  known_by lines code (refused line) s h = L.of_no_command (inr (inl h.status))
  known_by lines code (done ls j) (A.no_command o e) h = cc
  known_by lines code (done ls j) (A.prove file o m r) h =
      L.of_proof file o m (subst IsProofCode (sym (h.status ∙ r.proof.proof.status)) (proof_code (tally_of r.proof.proof.verdicts)))
  known_by lines code (done ls j) (A.replay file trace m r) h =
      L.of_replay file trace m (subst IsReplayCode (sym h.status) (replay_code r.program r.listing ls j r.replay))

  -- no answer has the status of a put that failed, or of want of memory
  not_by : (lines : List Line) (code k : ℕ) (e : Ending) → EndsSo told before now words e → Shows lines code e → code ≡ k → (k ≡ 6) ⊎ (k ≡ 7) → ⊥
  not_by lines code k usage s h c d = let j : code ≡ 2 = h.status in elim d [ inl e ↦ omega arith | inr e ↦ omega arith ]
  not_by lines code k (unread name) s h c d = let j : code ≡ 5 = h.status in elim d [ inl e ↦ omega arith | inr e ↦ omega arith ]
  not_by lines code k (refused line) s h c d = let j : code ≡ 3 = h.status in elim d [ inl e ↦ omega arith | inr e ↦ omega arith ]
  not_by lines code k (done ls j) s h c d =
      not_other j k (done_code ls j s) (sym h.status ∙ c) (elim d [ inl e ↦ inr (inr (inr (inl e))) | inr e ↦ inr (inr (inr (inr e))) ])

  pub proof_of : (code : ℕ) → Leaves told before now words puts_before puts_now old new code → (file : List ℕ) (o : Options)
      → AreProve words file o → IsProofCode code → IsProofDone o (told file) old new code
  proof_of code (L.answer lines a w) file o m h = proof_by lines code a.ending a.ends a.shown w file o m (inl h)
  proof_of code (L.failed text c r t w) file o m h = absurd (not_other code 6 (inl h) c (inr (inr (inr (inl refl)))))
  proof_of code (L.no_memory lines c f w) file o m h = absurd (not_other code 7 (inl h) c (inr (inr (inr (inr refl)))))

  pub replay_of : (code : ℕ) → Leaves told before now words puts_before puts_now old new code → (file trace : List ℕ)
      → AreReplay words file trace → IsReplayCode code → IsReplayDone told file trace old new code
  replay_of code (L.answer lines a w) file trace m h = replay_by lines code a.ending a.ends a.shown w file trace m (inr h)
  replay_of code (L.failed text c r t w) file trace m h = absurd (not_other code 6 (inr h) c (inr (inr (inr (inl refl)))))
  replay_of code (L.no_memory lines c f w) file trace m h = absurd (not_other code 7 (inr h) c (inr (inr (inr (inr refl)))))

  pub usage_of : (code : ℕ) → Leaves told before now words puts_before puts_now old new code → code ≡ 2 → IsUsage words old new
  usage_of code (L.answer lines a w) h = usage_by lines code a.ending a.ends a.shown w h
  usage_of code (L.failed text c r t w) h = absurd (omega arith)
  usage_of code (L.no_memory lines c f w) h = absurd (omega arith)

  pub refusal_of : (code : ℕ) → Leaves told before now words puts_before puts_now old new code → code ≡ 3 → IsRefusal told words old new
  refusal_of code (L.answer lines a w) h = refusal_by lines code a.ending a.ends a.shown w h
  refusal_of code (L.failed text c r t w) h = absurd (omega arith)
  refusal_of code (L.no_memory lines c f w) h = absurd (omega arith)

  pub unread_of : (code : ℕ) → Leaves told before now words puts_before puts_now old new code → code ≡ 5 → IsUnread told before now words old new
  unread_of code (L.answer lines a w) h = unread_by lines code a.ending a.ends a.shown w h
  unread_of code (L.failed text c r t w) h = absurd (omega arith)
  unread_of code (L.no_memory lines c f w) h = absurd (omega arith)

  pub broken_of : (code : ℕ) → Leaves told before now words puts_before puts_now old new code → code ≡ 6
      → IsBroken told before now words puts_before puts_now old new
  broken_of code (L.answer lines a w) h = absurd (not_by lines code 6 a.ending a.ends a.shown h (inl refl))
  broken_of code (L.failed text c r t w) h = record { rose = r; text = text; whole = t; printed = w }
  broken_of code (L.no_memory lines c f w) h = absurd (omega arith)

  pub short_of : (code : ℕ) → Leaves told before now words puts_before puts_now old new code → code ≡ 7 → IsShort told before now words old new
  short_of code (L.answer lines a w) h = absurd (not_by lines code 7 a.ending a.ends a.shown h (inr refl))
  short_of code (L.failed text c r t w) h = absurd (omega arith)
  short_of code (L.no_memory lines c f w) h = record { lines = lines; first = f; printed = w }

  pub known_of : (code : ℕ) → Leaves told before now words puts_before puts_now old new code → IsKnown words code
  known_of code (L.answer lines a w) = known_by lines code a.ending a.ends a.shown
  known_of code (L.failed text c r t w) = L.of_no_command (inr (inr (inr (inl c))))
  known_of code (L.no_memory lines c f w) = L.of_no_command (inr (inr (inr (inr c))))

  pub words_of : (code : ℕ) → Leaves told before now words puts_before puts_now old new code → code ≡ 2 → AreNoCommand words
  words_of code e h = (usage_of code e h).other
