-- What an answer, or an outcome, says of those that it is made of.
use Rattle.std.proofs.Common.{◌≡◌, Option, Some, None, refl, sym}
use Rattle.std.specs.Prelude.{Result, Ok, Err, IfOk, IfErr}
use Rattle.std.specs.Option.{option_map, option_and_then}
use Rattle.interp.specs.Answer.{Answer, Says, Wants, answer_map, on_some, and_then, Stops, Tells}
use Rattle.interp.specs.declared.no_verdict.Unverified.{Unverified}

pub then-some : {A B : Type 0} (o : Option A) (f : A → Option B) (y : B) → option_and_then f o ≡ Some y → (x : A) × (o ≡ Some x) × (f x ≡ Some y)
then-some None f y e = cc
then-some (Some x) f y e = (x, refl, e)

pub map-some : {A B : Type 0} (o : Option A) (f : A → B) (y : B) → option_map f o ≡ Some y → (x : A) × (o ≡ Some x) × (y ≡ f x)
map-some None f y e = cc
map-some (Some x) f y e = (x, refl, sym (cc))

pub map-says : {A B : Type 0} (f : A → B) (a : Answer A) (y : B) → answer_map f a ≡ Says y → (x : A) × (a ≡ Says x) × (f x ≡ y)
map-says f (Says x) y e = (x, refl, cc)
map-says f (Wants t) y e = cc

pub some-says : {A B : Type 0} (f : A → Answer (Option B)) (o : Option A) (y : B) → on_some f o ≡ Says (Some y) → (x : A) × (o ≡ Some x) × (f x ≡ Says (Some y))
some-says f (Some x) y e = (x, refl, e)
some-says f None y e = cc

pub then-says : {A B : Type 0} (f : A → Answer (Option B)) (a : Answer (Option A)) (y : B) → and_then f a ≡ Says (Some y) → (x : A) × (a ≡ Says (Some x)) × (f x ≡ Says (Some y))
then-says f (Says (Some x)) y e = (x, refl, e)
then-says f (Says None) y e = cc
then-says f (Wants t) y e = cc

pub said : {A : Type 0} (x y : A) → Says x ≡ Says y → x ≡ y
said x y e = cc

-- what a call says, and what it stops at
pub tells-says : {A : Type 0} (result : Result A Unverified) (answer : Answer A) → Tells result answer → IfOk result (λ x. answer ≡ Says x)
tells-says (Ok x) answer is = is
tells-says (Err stop) answer is = tt

pub tells-stops : {A : Type 0} (result : Result A Unverified) (answer : Answer A) → Tells result answer → IfErr result (Stops answer)
tells-stops (Ok x) answer is = tt
tells-stops (Err stop) answer is = is
