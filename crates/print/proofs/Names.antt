-- The names that are read back from the bytes and lengths in which a sheet's streams are stored are the streams' names.
use Prim.Native.Nat.{ℕ, zero, suc, ◌≤◌}
use native.Mathlib.Omega.{arith}
use mathlib.Core.Path.{◌≡◌, refl, sym, ◌∙◌, ap₂}
use mathlib.Core.List.{List, [], ◌∷◌, ◌++◌, map}
use lib.ListN.{length, take, length-map}
use lib.Seq.{take-suc, take_all}
use Rattle.meaning.specs.Expression.{Stream}
use Rattle.meaning.specs.Window.{join_over}
use Rattle.sheet.specs.Form.{names_of}
use Rattle.sheet.specs.Names.{eight_bytes, ShortNames}
use Rattle.sheet.proofs.Names.{name-found}
use Rattle.print.specs.Lines.{stored_names}

module _ (more_names more_lengths : List ℕ) where
  abbrev names : List Stream → List ℕ
  names ss = join_over eight_bytes ss ++ more_names

  abbrev lengths : List Stream → List ℕ
  lengths ss = map (λ x. length x.name) ss ++ more_lengths

  names-to : (ss : List Stream) → ShortNames ss → (k : ℕ) → k ≤ length ss → stored_names (names ss) (lengths ss) k ≡ take k (names_of ss)
  unfolding stored_names
  names-to ss short zero h = refl
  names-to ss short (suc k) h =
      let n = length-map ss (λ x. x.name) in
      ap₂ (λ l t. l ++ (t ∷ [])) (names-to ss short k (omega arith)) (name-found more_names more_lengths ss short k h) ∙ sym (take-suc (names_of ss) k [] (omega arith))

  pub stored-names : (ss : List Stream) → ShortNames ss → stored_names (names ss) (lengths ss) (length ss) ≡ names_of ss
  stored-names ss short = let n = length-map ss (λ x. x.name) in names-to ss short (length ss) (omega arith) ∙ take_all (length ss) (names_of ss) (omega arith)
