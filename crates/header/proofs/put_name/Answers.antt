-- `header::put_name` meets its contract: the bytes copied into a part of the list are those stored one after another.
use Prim.Native.Nat.{ℕ, ◌+◌, ◌≤◌}
use mathlib.Core.Path.{◌≡◌, refl, sym, ap, ap₂, ◌∙◌}
use mathlib.Core.List.{List, ◌++◌, append_assoc}
use native.Mathlib.Omega.{arith}
use lib.ListN.{length, take, drop}
use lib.Seq.{drop-drop}
use borrow.Rule.Slice.PartMut.{put_mid}
use Rattle.std.proofs.lemmas.List.Edits.{sets, sets-eq}
use Rattle.header.proofs.put_name.Goals as goal

copied : (a k : ℕ) (l new vs : List ℕ) → new ≡ vs → k ≡ length vs → a + length vs ≤ length l → put_mid a k l new ≡ sets l a vs
copied a k l new vs e n h = ap₂ (λ m w. put_mid a m l w) n e ∙ ap (λ t. take a l ++ (vs ++ t)) (drop-drop (length vs) a l) ∙ sym (append_assoc (take a l) vs (drop (a + length vs) l)) ∙ sym (sets-eq vs l a h)

pub returns : goal.returns
returns c = (copied _ _ c.args.names.now c.copy_from_slice.new.self c.args.name.now c.copy_from_slice.ensures.after (omega arith) (omega arith), refl)
