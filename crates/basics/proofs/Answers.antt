-- What the answer of a test says. From the definition alone.
use mathlib.Core.Path.{◌≡◌, refl}
use mathlib.Core.Bool.{Bool, true, false}
use Rattle.basics.specs.Answers.{Says}
use Rattle.basics.proofs.Reflects.{Reflects, Reflects.holds, Reflects.fails}

pub says_yes : {b : Bool} {P : Type 0} → b ≡ true → Says b P → P
says_yes e h = rw e at h

pub says_no : {b : Bool} {P : Type 0} → b ≡ false → Says b P → ¬ P
says_no e h = rw e at h

-- A property that holds has the answer true.
pub says_holds : {P : Type 0} (b : Bool) → Says b P → P → b ≡ true
says_holds true h p = refl
says_holds false h p = absurd (h p)

-- The answer from what it means in either case.
pub says_either : (b : Bool) {P : Type 0} → (b ≡ true → P) → (b ≡ false → ¬ P) → Says b P
says_either true f g = f refl
says_either false f g = g refl

-- A property that is the same as another has its answer.
pub says_both : (b : Bool) {P Q : Type 0} → (P → Q) → (Q → P) → Says b P → Says b Q
says_both true f g h = f h
says_both false f g h = λ q. h (g q)

-- A test that decides a property answers for it.
pub reflects_says : {P : Type 0} {b : Bool} → Reflects P b → Says b P
reflects_says (holds p) = p
reflects_says (fails n) = n
