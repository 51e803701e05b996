-- Brackets balance in what the grammar reads, so that the partner of an opening bracket is the first place where as many brackets are closed
-- as were opened after it. From the grammar's relation, and because no other token of a constraint is a bracket.
use Prim.Native.Nat.{ℕ, zero, suc, ◌+◌, ◌≤◌, ◌<◌}
use mathlib.Core.Path.{◌≡◌, refl, sym, ap, ap₂, subst, ◌∙◌}
use mathlib.Core.Bool.{Bool, true, false, not, cond, ◌||◌, true≢false}
use mathlib.Core.List.{List, [], ◌∷◌, ◌++◌, append_assoc, append-nil, head-eq_of_cons-eq, tail-eq_of_cons-eq}
use mathlib.Core.Logic.{◌⊎◌, inl, inr}
use mathlib.Core.Option.{Option, some, none, none-ne-some}
use native.Mathlib.Omega.{arith}
use lib.Dec.{T}
use lib.ListN.{length, take, drop, get_or, length-append, length-take}
use lib.Seq.{take-suc, split_at, take-append_seam, take-append-le, get_or-append_seam}
use Rattle.basics.proofs.Tests.{not-passed}
use Rattle.basics.proofs.Reflects.{or_reflects, to_false}
use Rattle.text.specs.Bytes.{Token, bytes_of}
use Rattle.text.specs.Token.{same_bytes, is_name, is_integer, is_natural}
use Rattle.text.proofs.Token.{same_bytes_reflects}
use Rattle.meaning.specs.Expression.{Expression}
use Rattle.sheet.specs.Vocabulary.{look_up, operator_tokens, operator_of, prefix_tokens, prefix_of}
use Rattle.sheet.specs.Grammar.{Phrase, part, expression, Reads, is_integer_token, is_stream, is_bracketed, is_prefixed, is_part, is_operation, is_conditional}
use Rattle.sheet.specs.Parser.{Parsed, parsed, expression_by, part_to}
use Rattle.sheet.proofs.Vocabulary.{all_keys, look_up-key}
use Rattle.sheet.proofs.Parser.{Split, part_to-sound, expression_to_sound, part_to-complete, expression_to_complete}

abbrev pub is_bracket_token : Token → Bool
is_bracket_token t = same_bytes (bytes_of "(") t || same_bytes (bytes_of ")") t

-- A token that passes a test that neither bracket passes is no bracket.
pub not_bracket : (f : Token → Bool) (t : Token) → (T (f (bytes_of "(")) → ⊥) → (T (f (bytes_of ")")) → ⊥) → T (f t) → is_bracket_token t ≡ false
not_bracket f t not-open not-close h = to_false (or_reflects (same_bytes_reflects (bytes_of "(") t) (same_bytes_reflects (bytes_of ")") t)) neither
  where
    neither : (bytes_of "(" ≡ t) ⊎ (bytes_of ")" ≡ t) → ⊥
    neither (inl e) = not-open (subst (λ u. T (f u)) (sym e) h)
    neither (inr e) = not-close (subst (λ u. T (f u)) (sym e) h)

table_no_bracket : {X : Type 0} (es : List (Token × X)) (t : Token) {x : X} → T (all_keys (λ u. not (is_bracket_token u)) es) → look_up es t ≡ some x → is_bracket_token t ≡ false
table_no_bracket es t h e = not-passed (is_bracket_token t) (look_up-key (λ u. not (is_bracket_token u)) es t h e)

-- From d open brackets the tokens lead to d', and no bracket is closed that none opened.
pub data Leads : ℕ → List Token → ℕ → Type 0 where
  ends : {d : ℕ} → Leads d [] d
  opens : {d d' : ℕ} {ts : List Token} → Leads (suc d) ts d' → Leads d (bytes_of "(" ∷ ts) d'
  closes : {d d' : ℕ} {ts : List Token} → Leads d ts d' → Leads (suc d) (bytes_of ")" ∷ ts) d'
  passes : {d d' : ℕ} {t : Token} {ts : List Token} → is_bracket_token t ≡ false → Leads d ts d' → Leads d (t ∷ ts) d'

pub leads-append : {d d' d'' : ℕ} {ts us : List Token} → Leads d ts d' → Leads d' us d'' → Leads d (ts ++ us) d''
leads-append ends h = h
leads-append (opens g) h = opens (leads-append g h)
leads-append (closes g) h = closes (leads-append g h)
leads-append (passes e g) h = passes e (leads-append g h)

-- What is read leads back to as many open brackets as there were.
pub reads-leads : {names : List Token} {k : Phrase} {ts : List Token} {e : Expression} → Reads names k ts e → (d : ℕ) → Leads d ts d
unfolding is_integer is_natural is_name prefix_of prefix_tokens operator_of operator_tokens
reads-leads (is_integer_token {t} h) d = passes (not_bracket is_integer t (λ i. i) (λ i. i) h) ends
reads-leads (is_stream {t} h k) d = passes (not_bracket is_name t (λ i. i) (λ i. i) h) ends
reads-leads (is_bracketed r) d = opens (leads-append (reads-leads r (suc d)) (closes ends))
reads-leads (is_prefixed {t} e r) d = passes (table_no_bracket prefix_tokens t tt e) (reads-leads r d)
reads-leads (is_part r) d = reads-leads r d
reads-leads (is_operation t r e s) d = leads-append (reads-leads r d) (passes (table_no_bracket operator_tokens t tt e) (reads-leads s d))
reads-leads (is_conditional r s t) d = passes refl (leads-append (reads-leads r d) (passes refl (leads-append (reads-leads s d) (passes refl (reads-leads t d)))))

-- How often the token stands among the tokens.
abbrev pub token_occurrences : Token → List Token → ℕ
token_occurrences w [] = 0
token_occurrences w (t ∷ ts) = cond (same_bytes w t) 1 0 + token_occurrences w ts

abbrev pub opened : List Token → ℕ
opened ts = token_occurrences (bytes_of "(") ts

abbrev pub closed : List Token → ℕ
closed ts = token_occurrences (bytes_of ")") ts

pub neither_counts : (m n : Bool) (a b : ℕ) → m || n ≡ false → (cond m 1 0 + a ≡ a) × (cond n 1 0 + b ≡ b)
neither_counts true n a b e = absurd (true≢false e)
neither_counts false true a b e = absurd (true≢false e)
neither_counts false false a b e = (omega arith, omega arith)

pub no_bracket_counts : (t : Token) (ts : List Token) → is_bracket_token t ≡ false → (opened (t ∷ ts) ≡ opened ts) × (closed (t ∷ ts) ≡ closed ts)
no_bracket_counts t ts e = neither_counts (same_bytes (bytes_of "(") t) (same_bytes (bytes_of ")") t) (opened ts) (closed ts) e

-- The brackets left open are those open before and those opened, less those closed.
pub leads-count : {d d' : ℕ} {ts : List Token} → Leads d ts d' → d' + closed ts ≡ d + opened ts
leads-count ends = refl
leads-count (opens g) = let z = leads-count g in omega arith
leads-count (closes g) = let z = leads-count g in omega arith
leads-count (passes {t = t} {ts = ts} e g) = let z = leads-count g in let (p, q) = no_bracket_counts t ts e in omega arith

leads-take : {d d' : ℕ} {ts : List Token} → Leads d ts d' → (n : ℕ) → (d'' : ℕ) × Leads d (take n ts) d''
leads-take {d} ends zero = (d, ends)
leads-take {d} ends (suc n) = (d, ends)
leads-take {d} (opens g) zero = (d, ends)
leads-take (opens g) (suc n) = let (k, h) = leads-take g n in (k, opens h)
leads-take {d} (closes g) zero = (_, ends)
leads-take (closes g) (suc n) = let (k, h) = leads-take g n in (k, closes h)
leads-take {d} (passes e g) zero = (d, ends)
leads-take (passes e g) (suc n) = let (k, h) = leads-take g n in (k, passes e h)

-- As many brackets are opened as closed, and no beginning closes more than it opens.
pub record Balanced (ts : List Token) : Type 0 where
  pub equal : opened ts ≡ closed ts
  pub before : (n : ℕ) → closed (take n ts) ≤ opened (take n ts)

leads-before : {d d' : ℕ} {ts : List Token} → Leads d ts d' → (n : ℕ) → closed (take n ts) ≤ d + opened (take n ts)
leads-before g n = let (k, h) = leads-take g n in let z = leads-count h in omega arith

pub reads_balanced : {names : List Token} {k : Phrase} {ts : List Token} {e : Expression} → Reads names k ts e → Balanced ts
reads_balanced r = record { equal = let z = leads-count (reads-leads r 0) in omega arith; before = λ n. let z = leads-before (reads-leads r 0) n in omega arith }

-- Among the tokens after an opening bracket this place is its partner: a closing bracket, before which as many are closed as opened
-- and never more.
pub record Partner (ts : List Token) (place : ℕ) : Type 0 where
  pub inside : place < length ts
  pub closing : get_or ts place [] ≡ bytes_of ")"
  pub equal : opened (take place ts) ≡ closed (take place ts)
  pub before : (n : ℕ) → n ≤ place → closed (take n ts) ≤ opened (take n ts)

token_occurrences-append : (w : Token) (ts us : List Token) → token_occurrences w (ts ++ us) ≡ token_occurrences w ts + token_occurrences w us
token_occurrences-append w [] us = omega arith
token_occurrences-append w (t ∷ ts) us = let z = token_occurrences-append w ts us in omega arith

-- Just after a partner more brackets are closed than opened, so that no later place is one.
pub partner_step : {ts : List Token} {m : ℕ} → Partner ts m → opened (take (suc m) ts) < closed (take (suc m) ts)
partner_step {ts} {m} p =
    let step : take (suc m) ts ≡ take m ts ++ (bytes_of ")" ∷ []) = take-suc ts m [] p.inside ∙ ap (λ t. take m ts ++ (t ∷ [])) p.closing in
    let o : opened (take (suc m) ts) ≡ opened (take m ts) + 0 = ap opened step ∙ token_occurrences-append (bytes_of "(") (take m ts) (bytes_of ")" ∷ []) in
    let c : closed (take (suc m) ts) ≡ closed (take m ts) + 1 = ap closed step ∙ token_occurrences-append (bytes_of ")") (take m ts) (bytes_of ")" ∷ []) in
    omega (arith, p.equal)

no_later_partner : {ts : List Token} {m n : ℕ} → Partner ts m → Partner ts n → m < n → ⊥
no_later_partner {m = m} p q l = let a = partner_step p in let b = q.before (suc m) l in omega arith

-- The tokens are those before the partner, the partner and those after it.
partner_whole : {ts : List Token} {m : ℕ} → Partner ts m → (take m ts ++ (bytes_of ")" ∷ [])) ++ drop (suc m) ts ≡ ts
partner_whole {ts} {m} p =
    append_assoc (take m ts) (bytes_of ")" ∷ []) (drop (suc m) ts)
    ∙ ap (λ t. take m ts ++ (t ∷ drop (suc m) ts)) (sym p.closing)
    ∙ sym (split_at ts m [] p.inside)

-- There is only one.
pub partner_unique : {ts : List Token} {m n : ℕ} → Partner ts m → Partner ts n → m ≡ n
partner_unique {ts} {m} {n} p q =
    let h : ¬ (m < n) = no_later_partner p q in
    let k : ¬ (n < m) = no_later_partner q p in
    omega arith

-- The partner of a bracket before balanced tokens and a closing bracket is that bracket.
pub balanced_partner : {ts : List Token} → Balanced ts → (rest : List Token) → Partner (ts ++ (bytes_of ")" ∷ rest)) (length ts)
balanced_partner {ts} b rest =
    record {
      inside = let z = length-append ts (bytes_of ")" ∷ rest) in omega arith;
      closing = get_or-append_seam ts (bytes_of ")") rest [];
      equal = rw (take-append_seam ts (bytes_of ")" ∷ rest)) b.equal;
      before = λ n l. rw (take-append-le n ts (bytes_of ")" ∷ rest) l) (b.before n);
    }

pub reads_partner : {names : List Token} {k : Phrase} {ts : List Token} {e : Expression} → Reads names k ts e → (rest : List Token) → Partner (ts ++ (bytes_of ")" ∷ rest)) (length ts)
reads_partner r rest = balanced_partner (reads_balanced r) rest

-- A part that begins with an opening bracket is an expression in brackets.
record Bracketed (names ts rest : List Token) (e : Expression) : Type 0 where
  inner : List Token
  reads : Reads names expression inner e
  whole : ts ≡ inner ++ (bytes_of ")" ∷ rest)

part_bracketed : {names : List Token} {ts us : List Token} (rest : List Token) {e : Expression} → Reads names part us e → us ++ rest ≡ bytes_of "(" ∷ ts → Bracketed names ts rest e
unfolding is_integer is_natural is_name prefix_of prefix_tokens
part_bracketed rest (is_integer_token h) q = absurd (subst (λ t. T (is_integer t)) (head-eq_of_cons-eq q) h)
part_bracketed rest (is_stream h k) q = absurd (subst (λ t. T (is_name t)) (head-eq_of_cons-eq q) h)
part_bracketed rest (is_bracketed {ts} r) q = record { inner = ts; reads = r; whole = sym (tail-eq_of_cons-eq q) ∙ append_assoc ts (bytes_of ")" ∷ []) rest }
part_bracketed rest (is_prefixed {p = f} h r) q = absurd (none-ne-some f (ap prefix_of (sym (head-eq_of_cons-eq q)) ∙ h))

-- Such a bracket has a partner.
pub bracket_partner : {names : List Token} {ts us : List Token} (rest : List Token) {e : Expression} → Reads names part us e → us ++ rest ≡ bytes_of "(" ∷ ts → (m : ℕ) × Partner ts m
bracket_partner rest r q =
    let b = part_bracketed rest r q in
    (length b.inner, subst (λ l. Partner l (length b.inner)) (sym b.whole) (reads_partner b.reads rest))

drop-append-cons : (ts : List Token) (t : Token) (us : List Token) → drop (suc (length ts)) (ts ++ (t ∷ us)) ≡ us
drop-append-cons [] t us = refl
drop-append-cons (s ∷ ts) t us = drop-append-cons ts t us

-- "the text between two brackets is read as an expression by itself": what is read as a part from an opening bracket on is what stands
-- up to its partner, read as an expression.
pub bracket_inside : {names : List Token} {ts us : List Token} (rest : List Token) {m : ℕ} {e : Expression} → Partner ts m → Reads names part us e → us ++ rest ≡ bytes_of "(" ∷ ts → Reads names expression (take m ts) e × (rest ≡ drop (suc m) ts)
bracket_inside {ts = ts} rest {m} p r q =
    let b = part_bracketed rest r q in
    let same : length b.inner ≡ m = partner_unique (reads_partner b.reads rest) (subst (λ l. Partner l m) b.whole p) in
    let front : take m ts ≡ b.inner = ap₂ take (sym same) b.whole ∙ take-append_seam b.inner (bytes_of ")" ∷ rest) in
    let after : drop (suc m) ts ≡ rest = ap₂ (λ n l. drop (suc n) l) (sym same) b.whole ∙ drop-append-cons b.inner (bytes_of ")") rest in
    (rw front b.reads, sym after)

-- What that says of the executable reader: from an opening bracket on it gives what it gives for the tokens up to the partner, read as a
-- whole expression; without a partner it gives nothing.
module _ (names ts : List Token) (n : ℕ) where
  module _ {m : ℕ} (p : Partner ts m) (long : length ts ≤ n) where
    pub bracket_read : {e : Expression} → expression_by (part_to names n) (take m ts) ≡ parsed e [] → part_to names (suc n) (bytes_of "(" ∷ ts) ≡ parsed e (drop (suc m) ts)
    bracket_read {e} q =
        let s = expression_to_sound names n (take m ts) (record { tree = e; rest = [] }) q in
        let front : s.front ≡ take m ts = sym (s.whole ∙ append-nil s.front) in
        let inner : Reads names expression (take m ts) e = subst (λ l. Reads names expression l e) front s.reads in
        let size = length-append (take m ts) (bytes_of ")" ∷ []) in
        let short = length-take m ts in
        ap (λ l. part_to names (suc n) (bytes_of "(" ∷ l)) (sym (partner_whole p)) ∙ part_to-complete names (is_bracketed inner) (suc n) (omega (arith, p.inside)) (drop (suc m) ts)

    pub bracket_read_back : (x : Parsed) → part_to names (suc n) (bytes_of "(" ∷ ts) ≡ some x → (expression_by (part_to names n) (take m ts) ≡ parsed x.tree []) × (x.rest ≡ drop (suc m) ts)
    bracket_read_back x q =
        let s : Split names part (bytes_of "(" ∷ ts) x = part_to-sound names (suc n) (bytes_of "(" ∷ ts) x q in
        let (inner, after) = bracket_inside x.rest p s.reads (sym s.whole) in
        let len = length-take m ts in
        (ap (expression_by (part_to names n)) (sym (append-nil (take m ts))) ∙ expression_to_complete names inner n (omega arith) [] tt, after)

  pub no_partner : ((m : ℕ) → Partner ts m → ⊥) → part_to names n (bytes_of "(" ∷ ts) ≡ none
  no_partner f = by (part_to names n (bytes_of "(" ∷ ts)) refl
    where
      by : (o : Option Parsed) → part_to names n (bytes_of "(" ∷ ts) ≡ o → o ≡ none
      by none e = refl
      by (some x) e =
          let s : Split names part (bytes_of "(" ∷ ts) x = part_to-sound names n (bytes_of "(" ∷ ts) x e in
          let (m, p) = bracket_partner x.rest s.reads (sym s.whole) in
          absurd (f m p)
