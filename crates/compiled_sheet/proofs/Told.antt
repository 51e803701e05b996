-- What is told of a sheet, by the answer of its compile; a call with what it tells has one outcome, and always one. From the laws of the compile's outcome.
use Prim.Native.Nat.{ℕ}
use mathlib.Core.Path.{◌≡◌, refl, sym, ap, ap₂, subst, ◌∙◌}
use mathlib.Core.Bool.{Bool, true, false, cond}
use mathlib.Core.Logic.{◌≢◌}
use mathlib.Core.List.{List}
use lib.Dec.{eqb}
use borrow.Author.Tests.{eq-eqb, ne_eqb}
use Rattle.sheet.specs.Reading.{answer_to}
use Rattle.outcome.specs.Compile.{CompileAnswer, Room, Tables, CompileCall}
use Rattle.outcome.proofs.CompileUnique.{compile_unique}
use Rattle.outcome.proofs.CompileTotal.{compile_total}
use Rattle.reader.specs.Stored.{reading_of}
use Rattle.reader.specs.declared.StoredSheet.{StoredSheet}
use Rattle.streams.specs.declared.StreamsDescription.{StreamsDescription}
use Rattle.compiled.specs.declared.Compiled.{Compiled}
use Rattle.compiled.specs.Answer.{refused_with, answer_of}
use Rattle.streams.specs.Description.{none_described}
use Rattle.compiled_sheet.specs.Told.{sheet_streams, told_with, told, told_with_play, compiled_in, Tells, SheetCall}
use Rattle.compiled_sheet.specs.declared.CompiledSheet.{CompiledSheet}

module _ (x : StoredSheet) (c : Compiled) {r : CompiledSheet} where
  pub refused-told : {streams : StreamsDescription} → (c.refusal ≡ 0 → ⊥) → streams ≡ none_described → r ≡ told_with c 0 streams → r ≡ told x c
  refused-told n e h = h ∙ ap (told_with c 0) e ∙ sym (ap (λ b. cond b (told_with c x.letters (sheet_streams x)) (told_with c 0 none_described)) (ne_eqb c.refusal 0 n))

  pub sheet-told : {streams : StreamsDescription} → c.refusal ≡ 0 → streams ≡ sheet_streams x → r ≡ told_with c x.letters streams → r ≡ told x c
  sheet-told z e h =
      h ∙ ap (told_with c x.letters) e
      ∙ sym (ap (λ b. cond b (told_with c x.letters (sheet_streams x)) (told_with c 0 none_described)) (eq-eqb c.refusal 0 z))

abbrev pub numbers_of : CompileAnswer → Compiled
numbers_of a = record { refusal = a.refusal; states = a.states; situations = a.situations }

-- The numbers of the compile's answer stand in what is told with it.
pub told-numbers : (x : StoredSheet) (c : Compiled) → compiled_in (told x c) ≡ c
told-numbers x c = by (eqb c.refusal 0)
  where
    by : (b : Bool) → compiled_in (cond b (told_with c x.letters (sheet_streams x)) (told_with c 0 none_described)) ≡ c
    by true = refl
    by false = refl

pub sheet-call : {text : List ℕ} {room : Room} {x : StoredSheet} {c : Compiled} {r : CompiledSheet} {t : Tables} → CompileCall text room (answer_of c) t
    → x ≡ (reading_of (answer_to text)).sheet → r ≡ told x c → SheetCall text room r t
sheet-call {text} {room} {x} {c} {r} {t} call is e =
    let same : c ≡ compiled_in r = sym (ap compiled_in e ∙ told-numbers x c) in
    record { call = subst (λ d. CompileCall text room (answer_of d) t) same call; tells = e ∙ (λ i. told (is i) (same i)) }

-- The answer alone is that of the call.
pub call-answer : {text : List ℕ} {room : Room} {told : CompiledSheet} {t : Tables} {c : Compiled} → SheetCall text room told t → c ≡ compiled_in told
    → CompileCall text room (answer_of c) t
call-answer {text} {room} {t = t} call e = subst (λ d. CompileCall text room (answer_of d) t) (sym e) call.call

-- ---- one answer for each call, and always one

module _ (text : List ℕ) (room : Room) where
  pub sheet-call_unique : {r q : CompiledSheet} {t u : Tables} → SheetCall text room r t → SheetCall text room q u → (r ≡ q) × (t ≡ u)
  sheet-call_unique a b =
      let same = compile_unique text room a.call b.call in
      (a.tells ∙ ap (λ c. told (reading_of (answer_to text)).sheet (numbers_of c)) same.0 ∙ sym b.tells, same.1)

  pub record HasSheetCall : Type 0 where
    pub answer : CompiledSheet
    pub tables : Tables
    pub call : SheetCall text room answer tables

  pub sheet-call-total : HasSheetCall
  sheet-call-total = let o = compile_total text room in record { answer = _; tables = o.tables; call = sheet-call {c = numbers_of o.answer} o.outcome refl refl }

  -- "A refusal returns its number with states and situations 0": nothing is told of the sheet either.
  pub refused-tells-nothing : {r : CompiledSheet} → Tells text r → (r.refusal ≡ 0 → ⊥) → (r.letters ≡ 0) × (r.streams ≡ none_described)
  refused-tells-nothing {r} tells n =
      let x = (reading_of (answer_to text)).sheet in
      let nothing : r ≡ told_with (compiled_in r) 0 none_described = tells ∙ ap (λ b. cond b (told_with (compiled_in r) x.letters (sheet_streams x)) (told_with (compiled_in r) 0 none_described)) (ne_eqb r.refusal 0 n) in
      (ap (λ y. y.letters) nothing, ap (λ y. y.streams) nothing)

-- The answer of a compile with a play table: the compile's own where it refuses or where a solution can be forced, else 16.
module _ (x : CompiledSheet) (forced : Bool) where
  pub play-refused : x.refusal ≢ 0 → x ≡ told_with_play x forced
  play-refused n = simp (ne_eqb x.refusal 0 n)

  pub play-forced : forced ≡ true → x ≡ told_with_play x forced
  play-forced e = by (eqb x.refusal 0) ∙ sym (ap (told_with_play x) e)
    where
      by : (b : Bool) → x ≡ cond b x x
      by true = refl
      by false = refl

  pub play-prevented : {c : Compiled} {streams : StreamsDescription} {r : CompiledSheet} → x.refusal ≡ 0 → forced ≡ false → c ≡ refused_with 16 → streams ≡ none_described
      → r ≡ told_with c 0 streams → r ≡ told_with_play x forced
  play-prevented z f e g h = h ∙ ap₂ (λ c s. told_with c 0 s) e g ∙ sym (ap₂ (λ b d. cond b (cond d x (told_with (refused_with 16) 0 none_described)) x) (eq-eqb x.refusal 0 z) f)
