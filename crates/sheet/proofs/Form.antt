-- The form of a sheet is decided and determines the sheet: `form_of` gives the sheet exactly where the text has a sheet's form.
-- From the laws of Parser.
use Prim.Native.Nat.{ℕ, zero, suc, ◌≤◌, ◌<◌}
use mathlib.Core.Path.{◌≡◌, refl, sym, ap, ap₂, subst, ◌∙◌}
use mathlib.Core.Bool.{Bool, true, false, cond, ◌&&◌}
use mathlib.Core.List.Memᴰ
use mathlib.Core.List.{List, [], ◌∷◌, map, Memᴰ, nil≢cons, cons≢nil, head-eq_of_cons-eq, tail-eq_of_cons-eq}
use mathlib.Core.Option.{Option, some, none, none-ne-some, some-injective}
use native.Mathlib.Omega.{arith}
use lib.Dec.{T, leb, eqb}
use lib.IntN.{ℤ}
use lib.ListN.{length, replicate, length-map, length-replicate}
use Rattle.basics.proofs.Tests.{T-of_true, true_of_T}
use borrow.Author.Tests.{leb-true, le-leb, eqb-true, eq-eqb}
use Rattle.basics.proofs.Tests.{and_left, and_right, and_both}
use Rattle.basics.proofs.Reflects.{Reflects, holds, T-reflects, to_true}
use Rattle.text.specs.Bytes.{Token, tokens}
use Rattle.text.specs.Token.{is_name, is_integer, integer_value}
use Rattle.meaning.specs.Expression.{Constraint, StreamKind, set_kind, Stream, Sheet}
use Rattle.meaning.specs.StreamKinds.{of_kind, without_kinds}
use Rattle.sheet.specs.Vocabulary.{stream_kind_of}
use Rattle.sheet.specs.Release.{is_known_release, floors_quotients, meant_constraints}
use Rattle.sheet.specs.Form.{release_in, lines_from_names, line_tokens, kind_tokens, constraint_lines, Integers, StreamKinds, SaidKinds, Constraints, names_of, stream_kinds_of, HasForm, layout_in}
use Rattle.sheet.specs.Parser.{and_then, parse_constraint}
use Rattle.sheet.specs.Reading.{stream_from, streams_from, kinds_from, kinds_of_streams, with_kinds, constraints_of, sheet_from, form_of_lines, has_header, form_of}
use Rattle.sheet.proofs.Parser.{and_then-some, parse_constraint-sound, parse_constraint-complete}

abbrev lows_of : List Stream → List ℤ
lows_of ss = map (λ x. x.range.low) ss

abbrev highs_of : List Stream → List ℤ
highs_of ss = map (λ x. x.range.high) ss

abbrev AllNames : List Token → Type 0
AllNames ts = (t : Token) → Memᴰ t ts → T (is_name t)

-- What the form asks of the three header lines.
record StreamsRead (ns ls hs : List Token) (ss : List Stream) : Type 0 where
  names : ns ≡ names_of ss
  are_names : AllNames (names_of ss)
  lows : Integers ls (lows_of ss)
  highs : Integers hs (highs_of ss)

AllNames-cons : {n : Token} {ns : List Token} → T (is_name n) → AllNames ns → AllNames (n ∷ ns)
AllNames-cons h all t (Memᴰ.head e) = subst (λ u. T (is_name u)) (sym e) h
AllNames-cons h all t (Memᴰ.tail m) = all t m

streams_read-more : {n l h : Token} {ns ls hs : List Token} {ss : List Stream} → T (is_name n && is_integer l && is_integer h) → StreamsRead ns ls hs ss → StreamsRead (n ∷ ns) (l ∷ ls) (h ∷ hs) (stream_from n l h ∷ ss)
streams_read-more {n} {l} {h} t r =
    let both : T (is_name n && is_integer l) = and_left (is_name n && is_integer l) (is_integer h) t in
    record {
      names = ap (λ ts. n ∷ ts) r.names;
      are_names = AllNames-cons (and_left (is_name n) (is_integer l) both) r.are_names;
      lows = Integers.more (and_right (is_name n) (is_integer l) both) r.lows;
      highs = Integers.more (and_right (is_name n && is_integer l) (is_integer h) t) r.highs;
    }

streams_from-sound : (ns ls hs : List Token) (ss : List Stream) → streams_from ns ls hs ≡ some ss → StreamsRead ns ls hs ss
unfolding streams_from
streams_from-sound [] [] [] ss q = subst (StreamsRead [] [] []) (some-injective [] ss q) (record { names = refl; are_names = λ t m. absurd (Memᴰ.not-nil m); lows = Integers.none; highs = Integers.none })
streams_from-sound [] [] (h ∷ hs) ss q = absurd (none-ne-some ss q)
streams_from-sound [] (l ∷ ls) hs ss q = absurd (none-ne-some ss q)
streams_from-sound (n ∷ ns) [] hs ss q = absurd (none-ne-some ss q)
streams_from-sound (n ∷ ns) (l ∷ ls) [] ss q = absurd (none-ne-some ss q)
streams_from-sound (n ∷ ns) (l ∷ ls) (h ∷ hs) ss q = by (is_name n && is_integer l && is_integer h) (T-reflects (is_name n && is_integer l && is_integer h)) (λ ss'. streams_from-sound ns ls hs ss') q
  where
    others : Option (List Stream)
    others = and_then (streams_from ns ls hs) (λ ss'. some (stream_from n l h ∷ ss'))

    by : (m : Bool) → Reflects (T (is_name n && is_integer l && is_integer h)) m → ((ss' : List Stream) → streams_from ns ls hs ≡ some ss' → StreamsRead ns ls hs ss') → cond m others none ≡ some ss → StreamsRead (n ∷ ns) (l ∷ ls) (h ∷ hs) ss
    by true (holds t) below e =
        let (ss', read, done) = and_then-some (streams_from ns ls hs) _ e in
        subst (StreamsRead (n ∷ ns) (l ∷ ls) (h ∷ hs)) (some-injective (stream_from n l h ∷ ss') ss done) (streams_read-more t (below ss' read))
    by false r below e = absurd (none-ne-some ss e)

-- The header lines are read as the streams whose names, lows and highs they are, without the kinds.
stream_from-same : (x : Stream) (l h : Token) → integer_value l ≡ x.range.low → integer_value h ≡ x.range.high → stream_from x.name l h ≡ of_kind set_kind x
stream_from-same x l h p q = λ i. record { name = x.name; kind = set_kind; range = record { low = p i; high = q i } }

streams_from-complete : {ls hs : List Token} {lows highs : List ℤ} (ss : List Stream) → Integers ls lows → Integers hs highs → lows ≡ lows_of ss → highs ≡ highs_of ss → AllNames (names_of ss)
    → streams_from (names_of ss) ls hs ≡ some (without_kinds ss)
unfolding streams_from
streams_from-complete [] Integers.none Integers.none p q all = refl
streams_from-complete [] Integers.none (Integers.more h hs) p q all = absurd (cons≢nil q)
streams_from-complete [] (Integers.more l ls) hs p q all = absurd (cons≢nil p)
streams_from-complete (x ∷ ss) Integers.none hs p q all = absurd (nil≢cons p)
streams_from-complete (x ∷ ss) (Integers.more l ls) Integers.none p q all = absurd (nil≢cons q)
streams_from-complete (x ∷ ss) (Integers.more {t = l} {ts = ls} low lows) (Integers.more {t = h} {ts = hs} high highs) p q all =
    let test : T (is_name x.name && is_integer l && is_integer h) = and_both (is_name x.name && is_integer l) (is_integer h) (and_both (is_name x.name) (is_integer l) (all x.name (Memᴰ.head refl)) low) high in
    ap (λ m. cond m (and_then (streams_from (names_of ss) ls hs) (λ ss'. some (stream_from x.name l h ∷ ss'))) none) (to_true (T-reflects (is_name x.name && is_integer l && is_integer h)) test)
    ∙ ap (λ o. and_then o (λ ss'. some (stream_from x.name l h ∷ ss'))) (streams_from-complete {ls = ls} {hs = hs} ss lows highs (tail-eq_of_cons-eq p) (tail-eq_of_cons-eq q) (λ t m. all t (Memᴰ.tail m)))
    ∙ ap (λ y. some (y ∷ without_kinds ss)) (stream_from-same x l h (head-eq_of_cons-eq p) (head-eq_of_cons-eq q))

-- ---- the kinds

-- Streams with other kinds are the same in all else.
pub with_kinds-map : {X : Type 0} (f : Stream → X) → ((k : StreamKind) (s : Stream) → f (of_kind k s) ≡ f s) → (ks : List StreamKind) (ss : List Stream) → map f (with_kinds ks ss) ≡ map f ss
with_kinds-map f same [] ss = refl
with_kinds-map f same (k ∷ ks) [] = refl
with_kinds-map f same (k ∷ ks) (s ∷ ss) = ap₂ ◌∷◌ (same k s) (with_kinds-map f same ks ss)

-- Where there is a kind for each, they have these kinds.
pub with_kinds-kinds : (ks : List StreamKind) (ss : List Stream) → length ks ≡ length ss → stream_kinds_of (with_kinds ks ss) ≡ ks
with_kinds-kinds [] [] e = refl
with_kinds-kinds [] (s ∷ ss) e = absurd (omega arith)
with_kinds-kinds (k ∷ ks) [] e = absurd (omega arith)
with_kinds-kinds (k ∷ ks) (s ∷ ss) e = ap (λ l. k ∷ l) (with_kinds-kinds ks ss (omega arith))

kinds-back : (ss : List Stream) → with_kinds (stream_kinds_of ss) (without_kinds ss) ≡ ss
kinds-back [] = refl
kinds-back (s ∷ ss) = ap (λ l. s ∷ l) (kinds-back ss)

kinds_from-sound : (ts : List Token) (ks : List StreamKind) → kinds_from ts ≡ some ks → StreamKinds ts ks
unfolding kinds_from
kinds_from-sound [] ks q = subst (StreamKinds []) (some-injective [] ks q) StreamKinds.none
kinds_from-sound (t ∷ ts) ks q =
    let (k, said, q₁) = and_then-some (stream_kind_of t) _ q in
    let (others, read, q₂) = and_then-some (kinds_from ts) _ q₁ in
    subst (StreamKinds (t ∷ ts)) (some-injective (k ∷ others) ks q₂) (StreamKinds.more said (kinds_from-sound ts others read))

kinds_from-complete : {ts : List Token} {ks : List StreamKind} → StreamKinds ts ks → kinds_from ts ≡ some ks
unfolding kinds_from
kinds_from-complete StreamKinds.none = refl
kinds_from-complete (StreamKinds.more {ts = ts} {k = k} e r) =
    ap (λ o. and_then o (λ k'. and_then (kinds_from ts) (λ others. some (k' ∷ others)))) e ∙ ap (λ o. and_then o (λ others. some (k ∷ others))) (kinds_from-complete r)

kinds-length : {ts : List Token} {ks : List StreamKind} → StreamKinds ts ks → length ts ≡ length ks
kinds-length StreamKinds.none = refl
kinds-length (StreamKinds.more e r) = ap suc (kinds-length r)

all_set : (n : ℕ) (k : StreamKind) → Memᴰ k (replicate n set_kind) → k ≡ set_kind
all_set zero k m = absurd (Memᴰ.not-nil m)
all_set (suc n) k (Memᴰ.head e) = e
all_set (suc n) k (Memᴰ.tail m) = all_set n k m

set_all : (ks : List StreamKind) → SaidKinds none ks → ks ≡ replicate (length ks) set_kind
set_all [] h = refl
set_all (k ∷ ks) h = ap₂ ◌∷◌ (h k (Memᴰ.head refl)) (set_all ks (λ j m. h j (Memᴰ.tail m)))

-- The kinds of n streams are those that the form asks for, and as many.
pub kinds_of_streams-sound : (said : Option (List Token)) (n : ℕ) (ks : List StreamKind) → kinds_of_streams said n ≡ some ks → SaidKinds said ks × (length ks ≡ n)
kinds_of_streams-sound none n ks q =
    let same : replicate n set_kind ≡ ks = some-injective (replicate n set_kind) ks q in
    (subst (SaidKinds none) same (all_set n), sym (ap length same) ∙ length-replicate n set_kind)
kinds_of_streams-sound (some ts) n ks q = by (eqb (length ts) n) refl q
  where
    by : (b : Bool) → eqb (length ts) n ≡ b → cond b (kinds_from ts) none ≡ some ks → StreamKinds ts ks × (length ks ≡ n)
    by true e h = let r = kinds_from-sound ts ks h in (r, sym (kinds-length r) ∙ eqb-true (length ts) n e)
    by false e h = absurd (none-ne-some ks h)

kinds_of_streams-complete : (said : Option (List Token)) (n : ℕ) (ks : List StreamKind) → SaidKinds said ks → length ks ≡ n → kinds_of_streams said n ≡ some ks
kinds_of_streams-complete none n ks h e = ap some (ap (λ m. replicate m set_kind) (sym e) ∙ sym (set_all ks h))
kinds_of_streams-complete (some ts) n ks h e = ap (λ b. cond b (kinds_from ts) none) (eq-eqb (length ts) n (kinds-length h ∙ e)) ∙ kinds_from-complete h

module _ (names : List Token) where
  pub constraints_of-sound : (ls : List (List ℕ)) (cs : List Constraint) → constraints_of names ls ≡ some cs → Constraints names ls cs
  unfolding constraints_of
  constraints_of-sound [] cs q = subst (Constraints names []) (some-injective [] cs q) Constraints.none
  constraints_of-sound (l ∷ ls) cs q =
      let (c, read, q₁) = and_then-some (parse_constraint names (tokens l)) _ q in
      let (cs', others, q₂) = and_then-some (constraints_of names ls) _ q₁ in
      subst (Constraints names (l ∷ ls)) (some-injective (c ∷ cs') cs q₂) (Constraints.more (parse_constraint-sound names (tokens l) c read) (constraints_of-sound ls cs' others))

  pub constraints_of-complete : {ls : List (List ℕ)} {cs : List Constraint} → Constraints names ls cs → constraints_of names ls ≡ some cs
  unfolding constraints_of
  constraints_of-complete Constraints.none = refl
  constraints_of-complete (Constraints.more {ls = ls} {c = c} r rs) =
      ap (λ o. and_then o (λ c'. and_then (constraints_of names ls) (λ cs'. some (c' ∷ cs')))) (parse_constraint-complete names r)
      ∙ ap (λ o. and_then o (λ cs'. some (c ∷ cs'))) (constraints_of-complete rs)

-- The streams of the three header lines, with any kinds.
streams_read-kinds : {ns ls hs : List Token} {ss : List Stream} (ks : List StreamKind) → StreamsRead ns ls hs ss → StreamsRead ns ls hs (with_kinds ks ss)
streams_read-kinds {ls = ls} {hs = hs} {ss = ss} ks r =
    let names = with_kinds-map (λ x. x.name) (λ k s. refl) ks ss in
    record {
      names = r.names ∙ sym names;
      are_names = subst AllNames (sym names) r.are_names;
      lows = subst (Integers ls) (sym (with_kinds-map (λ x. x.range.low) (λ k s. refl) ks ss)) r.lows;
      highs = subst (Integers hs) (sym (with_kinds-map (λ x. x.range.high) (λ k s. refl) ks ss)) r.highs;
    }

sheet_from-sound : (text : List ℕ) (ss : List Stream) (s : Sheet) → T (is_known_release (release_in text)) → (layout_in text).constraints_from ≤ length (lines_from_names text)
    → StreamsRead (line_tokens text (layout_in text).names_line) (line_tokens text (layout_in text).lows_line) (line_tokens text (layout_in text).highs_line) ss → SaidKinds (kind_tokens text) (stream_kinds_of ss)
    → sheet_from (floors_quotients (release_in text)) (constraint_lines text) ss ≡ some s → HasForm text s
sheet_from-sound text [] s t l r k q = absurd (none-ne-some s q)
sheet_from-sound text (x ∷ ss) s t l r k q =
    let (cs, read, done) = and_then-some (constraints_of (names_of (x ∷ ss)) (constraint_lines text)) _ q in
    subst (HasForm text) (some-injective (record { streams = x ∷ ss; constraints = meant_constraints (floors_quotients (release_in text)) cs }) s done)
    (record {
      release = t;
      header_lines = l;
      some_stream = omega arith;
      names = r.names;
      are_names = r.are_names;
      lows = r.lows;
      highs = r.highs;
      kinds = k;
      written = cs;
      constraints = constraints_of-sound (names_of (x ∷ ss)) (constraint_lines text) cs read;
      meaning = refl;
    })

sheet_from-complete : (floors : Bool) (ls : List (List ℕ)) (ss : List Stream) (cs : List Constraint) → 0 < length ss → Constraints (names_of ss) ls cs → sheet_from floors ls ss ≡ some (record { streams = ss; constraints = meant_constraints floors cs })
sheet_from-complete floors ls [] cs l r = absurd (omega arith)
sheet_from-complete floors ls (x ∷ ss) cs l r = ap (λ o. and_then o (λ cs'. some (record { streams = x ∷ ss; constraints = meant_constraints floors cs' }))) (constraints_of-complete (names_of (x ∷ ss)) r)

-- `form_of` gives exactly the sheets that the text has the form of.
pub form_of-sound : (text : List ℕ) (s : Sheet) → form_of text ≡ some s → HasForm text s
unfolding form_of
form_of-sound text s q = by (has_header text) refl q
  where
    ns : List Token
    ns = line_tokens text (layout_in text).names_line

    ls : List Token
    ls = line_tokens text (layout_in text).lows_line

    hs : List Token
    hs = line_tokens text (layout_in text).highs_line

    floors : Bool
    floors = floors_quotients (release_in text)

    by : (m : Bool) → has_header text ≡ m → cond m (form_of_lines floors ns ls hs (kind_tokens text) (constraint_lines text)) none ≡ some s → HasForm text s
    by true e h =
        let (ss, read, rest) = and_then-some (streams_from ns ls hs) _ h in
        let (ks, said, done) = and_then-some (kinds_of_streams (kind_tokens text) (length ss)) _ rest in
        let (kinds, each) = kinds_of_streams-sound (kind_tokens text) (length ss) ks said in
        let both = T-of_true (has_header text) e in
        let known = and_left (is_known_release (release_in text)) (leb (layout_in text).constraints_from (length (lines_from_names text))) both in
        let there = and_right (is_known_release (release_in text)) (leb (layout_in text).constraints_from (length (lines_from_names text))) both in
        sheet_from-sound text (with_kinds ks ss) s known (leb-true (layout_in text).constraints_from (length (lines_from_names text)) (true_of_T _ there)) (streams_read-kinds ks (streams_from-sound ns ls hs ss read))
        (subst (SaidKinds (kind_tokens text)) (sym (with_kinds-kinds ks ss each)) kinds) done
    by false e h = absurd (none-ne-some s h)

pub form_of-complete : {text : List ℕ} {s : Sheet} → HasForm text s → form_of text ≡ some s
unfolding form_of
form_of-complete {text} {s} f =
    let ls : List Token = line_tokens text (layout_in text).lows_line in
    let hs : List Token = line_tokens text (layout_in text).highs_line in
    let floors = floors_quotients (release_in text) in
    let rest : List Stream → Option Sheet = λ ss. and_then (kinds_of_streams (kind_tokens text) (length ss)) (λ ks. sheet_from floors (constraint_lines text) (with_kinds ks ss)) in
    let there = T-of_true _ (le-leb (layout_in text).constraints_from (length (lines_from_names text)) f.header_lines) in
    let header : has_header text ≡ true = true_of_T (has_header text) (and_both (is_known_release (release_in text)) (leb (layout_in text).constraints_from (length (lines_from_names text))) f.release there) in
    ap (λ m. cond m (and_then (streams_from (line_tokens text (layout_in text).names_line) ls hs) rest) none) header
    ∙ ap (λ ns. and_then (streams_from ns ls hs) rest) f.names
    ∙ ap (λ o. and_then o rest) (streams_from-complete s.streams f.lows f.highs refl refl f.are_names)
    ∙ ap (λ o. and_then o (λ ks. sheet_from floors (constraint_lines text) (with_kinds ks (without_kinds s.streams))))
    (kinds_of_streams-complete (kind_tokens text) (length (without_kinds s.streams)) (stream_kinds_of s.streams) f.kinds (length-map s.streams (λ x. x.kind) ∙ sym (length-map s.streams (of_kind set_kind))))
    ∙ ap (sheet_from floors (constraint_lines text)) (kinds-back s.streams)
    ∙ sheet_from-complete floors (constraint_lines text) s.streams f.written f.some_stream f.constraints
    ∙ ap (λ cs. some (record { streams = s.streams; constraints = cs })) f.meaning

-- A text has the form of at most one sheet.
pub form_unique : {text : List ℕ} {s s' : Sheet} → HasForm text s → HasForm text s' → s ≡ s'
form_unique {s = s} {s' = s'} f g = some-injective s s' (sym (form_of-complete f) ∙ form_of-complete g)

pub form_decided : (text : List ℕ) → Dec ((s : Sheet) × HasForm text s)
form_decided text = by (form_of text) refl
  where
    by : (o : Option Sheet) → form_of text ≡ o → Dec ((s : Sheet) × HasForm text s)
    by none e = no (λ h. none-ne-some h.0 (sym e ∙ form_of-complete h.1))
    by (some s) e = yes (s, form_of-sound text s e)
