-- What a stop lists.
use Rattle.std.specs.Prelude.{◌≡◌, Option, List, None, Some, IfSome}
use Rattle.signatures.specs.Triple.{Triple}

-- what is wanted below is wanted above
pub wanted_weaker : (P Q : List Triple → Type 0) → ((wanted : List Triple) → P wanted → Q wanted) → (told : Option (List Triple)) → IfSome told P → IfSome told Q
wanted_weaker P Q f None are = tt
wanted_weaker P Q f (Some list) are = f list are

-- out of memory nothing is wanted
pub none_wanted : (P : List Triple → Type 0) (told : Option (List Triple)) → told ≡ None → IfSome told P
none_wanted P None is = tt
none_wanted P (Some list) is = cc
