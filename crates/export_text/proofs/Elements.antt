-- Laws of elements one after the other: those of two lists, one element more of a list, of stored names and of the bytes of entries. From the definitions.
use Prim.Native.Nat.{ℕ, ◌+◌, ◌/◌, ◌%◌, ◌<◌}
use native.Mathlib.Numerals.{add-one}
use native.Mathlib.Omega.{arith}
use mathlib.Core.Path.{◌≡◌, refl, sym, ◌∙◌, ap}
use mathlib.Core.List.{List, [], ◌∷◌, ◌++◌, append_assoc, append-nil}
use lib.ListN.{length, get_or, take}
use lib.Seq.{take-suc}
use Rattle.text.specs.Bytes.{Token, bytes_of}
use Rattle.sheet.specs.Names.{name_in}
use Rattle.stored.specs.Number.{bytes_of_number, table_bytes}
use Rattle.stored.proofs.Table.{table_bytes-append}
use Rattle.step.specs.Step.{entry_width}
use Rattle.print.specs.Text.{digits}
use Rattle.print.specs.Lines.{stored_names}
use Rattle.export_text.specs.Export.{element, elements, quoted}

module _ {X : Type 0} (text : X → Token) where
  pub elements-append : (xs ys : List X) → elements text xs ++ elements text ys ≡ elements text (xs ++ ys)
  elements-append [] ys = refl
  elements-append (x ∷ xs) ys = append_assoc (element (text x)) (elements text xs) (elements text ys) ∙ ap (element (text x) ++◌) (elements-append xs ys)

  -- One element more.
  pub element-more : (xs : List X) (x : X) → elements text xs ++ element (text x) ≡ elements text (xs ++ (x ∷ []))
  element-more xs x = ap (elements text xs ++◌) (sym (append-nil (element (text x)))) ∙ elements-append xs (x ∷ [])

-- A name with its marks as the code appends it.
pub name-element : (name : Token) → (bytes_of " \"" ++ name) ++ bytes_of "\"," ≡ element (quoted name)
name-element name = simp append_assoc

pub next-name : (names lengths : List ℕ) (i : ℕ) → elements quoted (stored_names names lengths i) ++ element (quoted (name_in names lengths i)) ≡ elements quoted (stored_names names lengths (i + 1))
unfolding stored_names
next-name names lengths i = element-more quoted (stored_names names lengths i) (name_in names lengths i) ∙ ap (λ k. elements quoted (stored_names names lengths k)) (sym (add-one i))

-- The two bytes of an entry.
entry-bytes : (e : ℕ) → e < 65536 → table_bytes entry_width (e ∷ []) ≡ e % 256 ∷ (e / 256 ∷ [])
unfolding table_bytes bytes_of_number
entry-bytes e h = let q : e / 256 % 256 ≡ e / 256 = omega arith in ap (λ n. e % 256 ∷ (n ∷ [])) q

pub next-entry : (entries : List ℕ) (i : ℕ) → i < length entries → get_or entries i 0 < 65536 → {e : ℕ} → e ≡ get_or entries i 0
    → elements digits (table_bytes entry_width (take i entries)) ++ (element (digits (e % 256)) ++ element (digits (e / 256)))
    ≡ elements digits (table_bytes entry_width (take (i + 1) entries))
next-entry entries i h small is =
    let e = get_or entries i 0 in
    let front = table_bytes entry_width (take i entries) in
    ap (λ n. elements digits front ++ (element (digits (n % 256)) ++ element (digits (n / 256)))) is
    ∙ ap (λ l. elements digits front ++ (element (digits (e % 256)) ++ l)) (sym (append-nil (element (digits (e / 256)))))
    ∙ elements-append digits front (e % 256 ∷ (e / 256 ∷ []))
    ∙ ap (λ l. elements digits (front ++ l)) (sym (entry-bytes e small))
    ∙ ap (elements digits) (sym (table_bytes-append entry_width (take i entries) (e ∷ [])) ∙ ap (table_bytes entry_width) (sym (ap (λ k. take k entries) (add-one i) ∙ take-suc entries i 0 h)))
