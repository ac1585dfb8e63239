-- What contracts see of the value of a constant expression.
use Rattle.lus_meaning.specs.Value.{Value}
use Rattle.sys_parts.specs.declared.constant.Constant.{Constant}
use Rattle.sys_parts.specs.Values.{known_value}

abbrev pub constant_view : Constant → Value
constant_view c = known_value c.value
