-- Prefixes that stand one before the other: how many tokens and `first`s are passed, that nothing is read where nothing is read behind them, and
-- that a part which was read behind them leads, prefix by prefix, to the part that they begin. From the laws of one prefix (Parts).
use Prim.Native.Nat.{ℕ, ◌+◌, ◌-◌, ◌≤◌, ◌<◌}
use mathlib.Core.Path.{◌≡◌, refl, sym, ap, ap₂, subst, ◌∙◌}
use mathlib.Core.Bool.{Bool, true, false, cond}
use mathlib.Core.List.{List, [], ◌∷◌, cons≢nil, head-eq_of_cons-eq}
use mathlib.Core.Option.{none}
use native.Mathlib.Omega.{arith}
use lib.Dec.{eqb}
use lib.IntN.{ℤ}
use lib.ListN.{length}
use Rattle.nodes.specs.Evaluate.{Nodes}
use Rattle.text.specs.Bytes.{Token}
use Rattle.nodes.specs.Postfix.{node}
use Rattle.sheet.specs.Vocabulary.{prefix_tokens, prefix_of}
use Rattle.sheet.specs.Parser.{part_to}
use Rattle.scan.specs.Place.{between}
use Rattle.vocabulary.specs.Word.{code_or255, prefix_code}
use Rattle.scan.proofs.Tokens.{between_none}
use Rattle.parse.specs.declared.NumberedToken.{NumberedToken}
use Rattle.parse.specs.declared.Read.{Read}
use Rattle.parse.specs.Stored.{store}
use Rattle.parse.specs.Numbered.{TokenNumbered, nothing_left, numbered}
use Rattle.parse.specs.Reading.{firsts_inside, prefix_value}
use Rattle.parse.specs.Prefixes.{firsts_before, read_up_to, Passes, passes_nothing, passes_more, ReadLeads}
use Rattle.parse.proofs.Parts.{firsts-inside-most, a-prefix, prefix-found, prefix-missing}

-- A token that is a prefix is there.
pub prefix-stands : (text : List ℕ) (r : NumberedToken) {k : ℕ} → k ≡ code_or255 prefix_code (prefix_of (between text r.start r.end)) → (k ≡ 255 → ⊥) → r.start ≡ r.end → ⊥
unfolding prefix_of prefix_tokens
prefix-stands text r c n h = n (c ∙ ap (λ w. code_or255 prefix_code (prefix_of w)) (ap (between text r.start) (sym h) ∙ between_none text r.start))

-- The token that is found by a number is the one that is left to read there.
pub token-is : {text : List ℕ} {rest : ℕ → List Token} {m : ℕ} {r : NumberedToken} {w : Token} {us : List Token} → TokenNumbered text rest m r → rest m ≡ w ∷ us → between text r.start r.end ≡ w
token-is (nothing_left p q e) h = absurd (cons≢nil (sym h ∙ e))
token-is (numbered s w n e j) h = head-eq_of_cons-eq (sym e ∙ h)

pub firsts-back : (k g : ℕ) → firsts_before k (firsts_inside k g) ≡ g
firsts-back k g = by (eqb k 2)
  where
    by : (b : Bool) → cond b (cond b (g + 1) g - 1) (cond b (g + 1) g) ≡ g
    by true = omega arith
    by false = refl

-- The last of them.
pub record Last-passed (rest : ℕ → List Token) (at f m g : ℕ) : Type 0 where
  pub before : ℕ
  pub word : Token
  pub kind : ℕ
  pub passes : Passes rest at f (m - 1) before
  pub first : rest (m - 1) ≡ word ∷ rest m
  pub code : kind ≡ code_or255 prefix_code (prefix_of word)
  pub prefix : kind ≡ 255 → ⊥
  pub inside : g ≡ firsts_inside kind before

module _ {rest : ℕ → List Token} {at f : ℕ} where
  pub passes_later : {m g : ℕ} → Passes rest at f m g → at ≤ m
  passes_later (passes_nothing p q) = omega arith
  passes_later (passes_more p e s c n i) = omega (arith, passes_later p)

  pub passes_length : {m g : ℕ} → Passes rest at f m g → m + length (rest m) ≡ at + length (rest at)
  passes_length (passes_nothing p q) = ap (λ j. j + length (rest j)) p
  passes_length (passes_more p e s c n i) = let z = ap length e in omega (arith, passes_length p)

  pub passes_room : {m g : ℕ} → Passes rest at f m g → g + length (rest m) ≤ f + length (rest at)
  passes_room (passes_nothing p q) = let z = ap (λ j. length (rest j)) p in omega arith
  passes_room (passes_more {g = g} {k = k} p e s c n i) = let z = ap length e in let most = firsts-inside-most k g in omega (arith, passes_room p)

  pub last_passed : {m g : ℕ} → Passes rest at f m g → at < m → Last-passed rest at f m g
  last_passed (passes_nothing p q) l = absurd (omega arith)
  last_passed {m = m'} (passes_more {m = m} {g = g} {w = w} {k = k} p e s c n i) l =
      let back : m ≡ m' - 1 = omega arith in
      record {
        before = g;
        word = w;
        kind = k;
        passes = subst (λ j. Passes rest at f j g) back p;
        first = subst (λ j. rest j ≡ w ∷ rest m') back e;
        code = c;
        prefix = n;
        inside = i;
      }

  -- Up to the first of them none is numbered.
  passes_none : {m g : ℕ} → Passes rest at f m g → m ≡ at → g ≡ f
  passes_none (passes_nothing p q) h = q
  passes_none (passes_more p e s c n i) h = absurd (omega (arith, passes_later p))

  -- Nothing is read before what is no part.
  pub passes_missing : (names : List Token) {m g : ℕ} → Passes rest at f m g → ((d : ℕ) → length (rest m) ≤ d → part_to names d (rest m) ≡ none) → (d : ℕ) → length (rest at) ≤ d → part_to names d (rest at) ≡ none
  passes_missing names (passes_nothing p q) h = subst (λ j. (d : ℕ) → length (rest j) ≤ d → part_to names d (rest j) ≡ none) p h
  passes_missing names (passes_more p e s c n i) h = passes_missing names p (prefix-missing names rest s e (a-prefix c n) h)

-- One more in front.
module _ {rest : ℕ → List Token} {at f next inside k : ℕ} {w : Token} (number : next ≡ at + 1) (e : rest at ≡ w ∷ rest next) (c : k ≡ code_or255 prefix_code (prefix_of w)) (n : k ≡ 255 → ⊥)
    (i : inside ≡ firsts_inside k f) where
  pub passes_front : {m g : ℕ} → Passes rest next inside m g → Passes rest at f m g
  passes_front (passes_nothing p q) = passes_more (passes_nothing refl refl) (e ∙ ap (λ j. w ∷ rest j) (sym p)) (p ∙ number) c n (q ∙ i)
  passes_front (passes_more p e' s c' n' i') = passes_more (passes_front p) e' s c' n' i'

-- The token before the last number says which prefix it is, and so how many `first`s are numbered before it.
module _ {rest : ℕ → List Token} {at f m g : ℕ} (l : Last-passed rest at f m g) where
  pub kind_is : (text : List ℕ) (r : NumberedToken) {k : ℕ} → TokenNumbered text rest (m - 1) r → k ≡ code_or255 prefix_code (prefix_of (between text r.start r.end)) → k ≡ l.kind
  kind_is text r t c = c ∙ ap (λ w. code_or255 prefix_code (prefix_of w)) (token-is t l.first) ∙ sym l.code

  pub before_is : (k : ℕ) {b : ℕ} → k ≡ l.kind → b ≡ firsts_before k g → b ≡ l.before
  before_is k t q = q ∙ ap₂ firsts_before t l.inside ∙ firsts-back l.kind l.before

-- ---- what was read

pub leads-none : {rest : ℕ → List Token} {n m g : ℕ} {mid : Nodes} {r : Read} → ReadLeads rest n m g mid r m g mid (read_up_to r r.nodes)
leads-none =
    record {
      read = refl;
      found = λ names old h.
          record { tree = h.tree; reads = h.reads; stores = h.stores; fewer = h.fewer; numbers = h.numbers; room = h.room; room_firsts = h.room_firsts };
    }

module _ {rest : ℕ → List Token} {n m g : ℕ} {mid : Nodes} {r : Read} {at f number inside last : ℕ} {now new : Nodes}
    (h : ReadLeads rest n m g mid r number inside now (read_up_to r last)) (l : Last-passed rest at f number inside) where
  -- One prefix more, from the place before its token.
  pub leads-more : 0 < number → {k : ℕ} {v : ℤ} → k ≡ l.kind → v ≡ prefix_value k l.before → new ≡ store now last (node k v n ∷ []) → ReadLeads rest n m g mid r (number - 1) l.before new (read_up_to r (last + 1))
  leads-more z {k} t q s =
      let next : number ≡ number - 1 + 1 = omega arith in
      record {
        read = refl;
        found = λ names old x.
            prefix-found names rest next l.first (a-prefix {w = l.word} (t ∙ l.code) (λ y. l.prefix (sym t ∙ y))) (l.inside ∙ ap (λ j. firsts_inside j l.before) (sym t)) q (h.found names old x) s;
      }

-- At the first of them the part is read that they begin.
pub leads-end : {rest : ℕ → List Token} {n m g : ℕ} {mid : Nodes} {r : Read} {at f number inside : ℕ} {new : Nodes} {s : Read} → ReadLeads rest n m g mid r number inside new s → Passes rest at f number inside → number ≤ at
    → ReadLeads rest n m g mid r at f new s
leads-end {rest} {n} {m} {g} {mid} {r} {at = at} {f = f} {number = number} {new = new} {s = s} h p l =
    let e : number ≡ at = omega (arith, passes_later p) in
    subst (λ j. ReadLeads rest n m g mid r j f new s) e (subst (λ j. ReadLeads rest n m g mid r number j new s) (passes_none p e) h)
