-- The answers of the reader of parts: each way that it goes gives what its contract says. From the laws of Readers and Trees.
use Prim.Native.Nat.{ℕ, suc, ◌+◌, ◌-◌, ◌≤◌, ◌<◌}
use mathlib.Core.Path.{◌≡◌, sym, ap, subst, ◌∙◌}
use mathlib.Core.Bool.{Bool, true, false, cond, true≢false}
use mathlib.Core.List.{List, [], ◌∷◌, cons≢nil, head-eq_of_cons-eq}
use mathlib.Core.Option.{Option, some, none, none-ne-some, some-injective}
use native.Mathlib.Omega.{arith}
use lib.Dec.{eqb}
use lib.IntN.{ℤ}
use lib.ListN.{length, drop, get_or}
use lib.Seq.{get_or-drop}
use Rattle.nodes.specs.Evaluate.{Nodes}
use Rattle.text.specs.Bytes.{Token, bytes_of, tokens}
use Rattle.text.specs.Token.{same_bytes}
use Rattle.nodes.specs.Postfix.{node, postfix}
use Rattle.sheet.specs.Vocabulary.{Prefix, prefixed, prefix_of}
use Rattle.sheet.specs.Parser.{Parsed, parsed, Reader, expression_by, part_to}
use Rattle.sheet.specs.Brackets.{BytePartner}
use Rattle.scan.specs.Place.{between, PartnerAt, no_partner, a_partner}
use Rattle.vocabulary.specs.Word.{code_or255, prefix_code}
use Rattle.scan.proofs.Tokens.{between_first}
use Rattle.vocabulary.proofs.Words.{code-some}
use Rattle.parse.specs.declared.NumberedToken.{NumberedToken}
use Rattle.parse.specs.declared.Read.{Read}
use Rattle.parse.specs.Stored.{store, SameBelow}
use Rattle.parse.specs.Bounded.{bounded_expression}
use Rattle.parse.specs.Numbered.{tokens_from, Placed, TokenNumbered}
use Rattle.parse.specs.Reading.{StoresTree, TreeRead, PartReading, Leaf, LeafReading, firsts_inside, prefix_value}
use Rattle.parse.proofs.Store.{below-store}
use Rattle.parse.proofs.Trees.{stores-prefix}
use Rattle.parse.proofs.Numbers.{token-within, token-number, placed-later, left_stored, inner-placed, inner_first, closing-token}
use Rattle.parse.proofs.Readers.{same_word, token_bytes, part_by, part-prefix, part-prefix-none, part_none, part_bracket, part_bracket_none, part_open, inner-length, open_bytes, open_tokens}

module _ {R : ℕ → Reader} {rest : ℕ → List Token} {at : ℕ} {old new : Nodes} {n f : ℕ} {r : Read} where
  -- Nothing was read.
  pub reading-missing : r.ok ≡ false → ((d : ℕ) → length (rest at) ≤ d → R d (rest at) ≡ none) → SameBelow n new old → PartReading R rest at old new n f r
  reading-missing e h k = record { found = λ t. absurd (true≢false (sym t ∙ e)); missing = λ t. h; kept = k }

  -- A tree was read.
  pub reading-found : r.ok ≡ true → TreeRead R rest at old new n f r → PartReading R rest at old new n f r
  reading-found e h =
      record {
        found = λ t. h;
        missing = λ t. absurd (true≢false (sym e ∙ t));
        kept = below-store old n (postfix n f (bounded_expression h.tree)) h.stores.arrays;
      }

-- The starts that give the tokens from a number on give them from the number on that a reader or a token has gone to.
pub found-placed : {R : ℕ → Reader} {text : List ℕ} {origin : ℕ} {starts : List ℕ} {at : ℕ} {old new : Nodes} {n f : ℕ} {r : Read} → Placed text origin starts at → TreeRead R (tokens_from text origin starts) at old new n f r → Placed text origin starts r.next
found-placed p h = placed-later p (omega (arith, h.numbers, h.fewer))

pub number-placed : {text : List ℕ} {origin : ℕ} {starts : List ℕ} {at next : ℕ} → Placed text origin starts at → next ≡ at + 1 → Placed text origin starts next
number-placed p e = placed-later p (omega arith)

pub firsts-inside-most : (k f : ℕ) → firsts_inside k f ≤ f + 1
firsts-inside-most k f = by (eqb k 2)
  where
    by : (b : Bool) → cond b (f + 1) f ≤ f + 1
    by true = omega arith
    by false = omega arith

pub record Prefix-at (w : Token) (k : ℕ) : Type 0 where
  pub prefix : Prefix
  pub is : prefix_of w ≡ some prefix
  pub code : k ≡ prefix_code prefix

pub a-prefix : {w : Token} {k : ℕ} → k ≡ code_or255 prefix_code (prefix_of w) → (k ≡ 255 → ⊥) → Prefix-at w k
a-prefix {w} e n = let (p, is, code) = code-some prefix_code (prefix_of w) (λ h. n (e ∙ h)) in record { prefix = p; is = is; code = e ∙ code }

module _ (names : List Token) (rest : ℕ → List Token) {at next : ℕ} {w : Token} (number : next ≡ at + 1) (e : rest at ≡ w ∷ rest next) where
  -- `first`, `next` or `not` before a part.
  pub prefix-found : {old mid new : Nodes} {n f g k : ℕ} {v : ℤ} {r : Read} → Prefix-at w k → g ≡ firsts_inside k f → v ≡ prefix_value k f → TreeRead (part_to names) rest next old mid n g r → new ≡ store mid r.nodes (node k v n ∷ [])
      → TreeRead (part_to names) rest at old new n f (record { ok = true; next = r.next; nodes = r.nodes + 1; firsts = r.firsts; beyond = r.beyond })
  prefix-found {old} {mid} {n = n} {f = f} {k = k} {r = r} p i q h s =
      let z = ap length e in
      let most = firsts-inside-most k f in
      record {
        tree = prefixed p.prefix h.tree;
        reads = part-prefix names e p.is h.reads;
        stores = stores-prefix p.prefix p.code q (subst (λ j. StoresTree h.tree old mid n j r.nodes r.firsts r.beyond) i h.stores) s;
        fewer = omega (arith, h.fewer);
        numbers = omega (arith, h.numbers);
        room = omega (arith, h.room);
        room_firsts = omega (arith, h.room_firsts);
      }

  pub prefix-missing : {k : ℕ} → Prefix-at w k → ((d : ℕ) → length (rest next) ≤ d → part_to names d (rest next) ≡ none) → (d : ℕ) → length (rest at) ≤ d → part_to names d (rest at) ≡ none
  prefix-missing p h = part-prefix-none names e p.is h

  -- An integer or a name.
  pub leaf_reading : {old new : Nodes} {n f : ℕ} {r : Read} → prefix_of w ≡ none → same_bytes (bytes_of "(") w ≡ false → LeafReading names w next old new n f r → PartReading (part_to names) rest at old new n f r
  leaf_reading {old} {new} {n} {f} {r} p b l = record { found = found; missing = λ t. let (i, s) = l.missing t in part_none names e p i s b; kept = l.kept }
    where
      found : r.ok ≡ true → TreeRead (part_to names) rest at old new n f r
      found t =
          let h : Leaf names w old new n f r = l.found t in
          let z = ap length e in
          let same : rest next ≡ rest r.next = ap rest (sym (l.place t)) in
          let size = ap length same in
          record {
            tree = h.tree;
            reads = λ d m. part_by names e (λ k j. h.reads (part_to names k) (rest next)) d m ∙ ap (parsed h.tree) same;
            stores = h.stores;
            fewer = omega arith;
            numbers = omega (arith, l.place t);
            room = omega (arith, h.one);
            room_firsts = omega (arith, h.none);
          }

-- An expression in brackets, where the opening bracket is the token with the number `at`.
module _ (names : List Token) {text : List ℕ} {origin : ℕ} {starts : List ℕ} {at : ℕ} {s : NumberedToken} (placed : Placed text origin starts at)
    (token : TokenNumbered text (tokens_from text origin starts) at s) (stands : s.start ≡ s.end → ⊥) (b : same_bytes (bytes_of "(") (token_bytes text s) ≡ true) where
  abbrev rest : ℕ → List Token
  rest = tokens_from text origin starts

  abbrev from : ℕ
  from = s.start + 1

  first : rest at ≡ token_bytes text s ∷ tokens (drop from text)
  first = open_tokens token stands b

  pub open_missing : {close : ℕ} → PartnerAt text from close → length text ≤ close → (d : ℕ) → length (rest at) ≤ d → part_to names d (rest at) ≡ none
  open_missing (no_partner _ g) h d l = part_open names text from first b g d
  open_missing (a_partner _ i _) h d l = absurd (omega arith)

  module _ {close : ℕ} (k : PartnerAt text from close) (i : close < length text) where
    pub partner_forward : from ≤ close
    partner_forward = by k
      where
        by : PartnerAt text from close → from ≤ close
        by (no_partner g _) = absurd (omega arith)
        by (a_partner g _ _) = g

    partner_bytes : BytePartner (drop from text) (close - from)
    partner_bytes = by k
      where
        by : PartnerAt text from close → BytePartner (drop from text) (close - from)
        by (no_partner g _) = absurd (omega arith)
        by (a_partner _ _ p) = p

    abbrev inner : List ℕ
    inner = between text from close

    -- The tokens of the text between the brackets, by number.
    abbrev inside : ℕ → List Token
    inside = tokens_from inner (origin + from) starts

    later : Placed text origin starts s.next
    later = placed-later placed (omega (arith, token-number token stands))

    opens : get_or text s.start 0 ≡ 40
    opens =
        let within = token-within token in
        head-eq_of_cons-eq (sym (between_first text s.start s.end (omega (arith, stands)) (omega (arith, partner_forward))) ∙ sym (same_word (bytes_of "(") (token_bytes text s) b))

    closes : get_or text close 0 ≡ 41
    closes =
        let there : from + (close - from) ≡ close = omega (arith, partner_forward) in
        ap (λ n. get_or text n 0) (sym there) ∙ sym (get_or-drop from text (close - from) 0) ∙ partner_bytes.closing

    pub inside-placed : Placed inner (origin + from) starts s.next
    inside-placed = inner-placed text origin starts s.next s.start close later (open_bytes token stands b) opens partner_forward i closes

    inside-first : inside s.next ≡ tokens inner
    inside-first = inner_first text origin starts s.next s.start close later (open_bytes token stands b) opens partner_forward i closes

    pub inside-length : length (rest at) ≡ suc (length (inside s.next) + suc (length (tokens (drop (close + 1) text))))
    inside-length = let z = inner-length names text from close partner_forward partner_bytes in omega (arith, ap length first, ap length inside-first)

    reads-inner : {o : Option Parsed} (d : ℕ) → expression_by (part_to names d) (inside s.next) ≡ o → expression_by (part_to names d) (tokens inner) ≡ o
    reads-inner d q = ap (expression_by (part_to names d)) (sym inside-first) ∙ q

    pub bracket_missing : ((d : ℕ) → length (inside s.next) ≤ d → expression_by (part_to names d) (inside s.next) ≡ none) → (d : ℕ) → length (rest at) ≤ d → part_to names d (rest at) ≡ none
    bracket_missing h = part_bracket_none names text from close partner_forward partner_bytes first b (λ d l a q. none-ne-some _ (sym (reads-inner d (h d (omega (arith, ap length inside-first)))) ∙ q))

    module _ {old new : Nodes} {n f : ℕ} {r : Read} (h : TreeRead (λ d. expression_by (part_to names d)) inside s.next old new n f r) where
      found-inner : (d : ℕ) → length (tokens inner) ≤ d → expression_by (part_to names d) (tokens inner) ≡ parsed h.tree (inside r.next)
      found-inner d l = reads-inner d (h.reads d (omega (arith, ap length inside-first)))

      -- The text between the brackets goes on after an expression.
      pub bracket_longer : {t : Token} {us : List Token} → inside r.next ≡ t ∷ us → (d : ℕ) → length (rest at) ≤ d → part_to names d (rest at) ≡ none
      bracket_longer m = part_bracket_none names text from close partner_forward partner_bytes first b (λ d l a q. cons≢nil (sym m ∙ ap (λ y. y.rest) (some-injective _ _ (sym (found-inner d l) ∙ q))))

      module _ (m : inside r.next ≡ []) where
        closing : rest r.next ≡ bytes_of ")" ∷ tokens (drop (close + 1) text)
        closing =
            let there : r.next ≡ s.next + length (tokens inner) = omega (arith, h.numbers, ap length m, ap length inside-first) in
            ap rest there ∙ closing-token text origin starts s.next s.start close later (open_bytes token stands b) opens partner_forward i closes

        pub closing-stored : r.next < length starts
        closing-stored = left_stored text origin starts r.next closing

        after-closing : rest (r.next + 1) ≡ tokens (drop (close + 1) text)
        after-closing = later.follows r.next (omega (arith, h.numbers, h.fewer)) ∙ ap (drop 1) closing

        pub bracket_found : TreeRead (part_to names) rest at old new n f (record { ok = true; next = r.next + 1; nodes = r.nodes; firsts = r.firsts; beyond = r.beyond })
        bracket_found =
            let size = inside-length in
            let none_left = ap length m in
            let left = ap length after-closing in
            record {
              tree = h.tree;
              reads = λ d l. part_bracket names text from close partner_forward partner_bytes first b (λ j g. found-inner j g ∙ ap (parsed h.tree) m) d l ∙ ap (parsed h.tree) (sym after-closing);
              stores = h.stores;
              fewer = omega arith;
              numbers = omega (arith, h.numbers, token-number token stands);
              room = omega (arith, h.room);
              room_firsts = omega (arith, h.room_firsts);
            }
