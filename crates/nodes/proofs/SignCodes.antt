-- The number of a sign gives the sign back, and is not that of `until`. By the seven signs.
use mathlib.Core.Path.{◌≡◌, refl}
use mathlib.Core.Bool.{false}
use lib.Dec.{eqb}
use Rattle.meaning.specs.Value.{less, at_most, equal, at_least, greater, different}
use Rattle.meaning.specs.Expression.{Sign, comparison, implies}
use Rattle.nodes.specs.Code.{sign_code, sign_at}

pub sign-code : (s : Sign) → (sign_at (sign_code s) ≡ s) × (eqb (sign_code s) 7 ≡ false)
sign-code (comparison less) = (refl, refl)
sign-code (comparison at_most) = (refl, refl)
sign-code (comparison equal) = (refl, refl)
sign-code (comparison at_least) = (refl, refl)
sign-code (comparison greater) = (refl, refl)
sign-code (comparison different) = (refl, refl)
sign-code implies = (refl, refl)
