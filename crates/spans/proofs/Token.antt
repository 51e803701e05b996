-- The first token from a place on is the one of scan's relation, which has one answer. By induction over the bytes from the place on.
use Prim.Native.Nat.{ℕ, suc, ◌+◌, ◌-◌, ◌≤◌, ◌<◌}
use mathlib.Core.Path.{◌≡◌, refl, sym, ap, ap₂, subst, ◌∙◌}
use mathlib.Core.Bool.{Bool, true, false, true≢false}
use mathlib.Core.List.{List, [], ◌∷◌, ◌++◌, append_assoc, cons≢nil, head-eq_of_cons-eq}
use native.Mathlib.Omega.{arith}
use native.Mathlib.Decide.{dec_le}
use native.Mathlib.Numerals.{add-one}
use lib.Dec.{T}
use lib.ListN.{length, take, drop, get_or, length-drop}
use lib.Seq.{drop-drop, drop-cons}
use Rattle.basics.proofs.Tests.{or_left, or_right}
use Rattle.text.specs.Bytes.{Token, ByteClass, is_bracket, is_inside, starts_inside, extend_first, add_to_tokens, tokens}
use Rattle.text.proofs.Bytes.{HasClass, a_bracket, an_inside, a_between, class_of_has, BeginsWithRun, begins, tokens-begin, tokens_append, tokens_bracket}
use Rattle.scan.specs.declared.Span.{Span}
use Rattle.scan.specs.Place.{between, TokenAt, no_token, a_token}
use Rattle.scan.specs.Start.{is_visible}
use Rattle.scan.proofs.Tokens.{between_split, between_first, between-last, between_none}
use Rattle.scan.proofs.Functional.{token_unique}
use Rattle.spans.specs.Token.{span, add_to_first, first_token, token_from}

-- A token ends before the place: what stands there goes on no run, or a bracket stands just before it.
pub data Ended (text : List ℕ) : ℕ → Type 0 where
  run_ends : {e : ℕ} → starts_inside (drop e text) ≡ false → Ended text e
  bracket_ends : {p : ℕ} → p < length text → T (is_bracket (get_or text p 0)) → Ended text (suc p)

-- The first and the last byte of a token are bytes of a token.
pub record Seen (text : List ℕ) (r : Span) : Type 0 where
  pub first : T (is_visible (get_or text r.start 0))
  pub last : T (is_visible (get_or text (r.end - 1) 0))

-- What is shown of the first token from a place on; `run` says whether the byte there is inside a run.
record First (text : List ℕ) (at : ℕ) (run : Bool) (r : Span) : Type 0 where
  is : TokenAt text at r
  same : tokens (drop r.start text) ≡ tokens (drop at text)
  here : run ≡ true → r.start ≡ at
  ended : Ended text r.end
  seen : r.start < r.end → Seen text r

bracket_visible : (b : ℕ) → T (is_bracket b) → T (is_visible b)
bracket_visible b t = or_left (is_bracket b) (is_inside b) t

inside-visible : (b : ℕ) → T (is_inside b) → T (is_visible b)
inside-visible b t = or_right (is_bracket b) (is_inside b) t

some-token : {ts : List Token} → BeginsWithRun ts → ts ≡ [] → ⊥
some-token (begins t) e = cons≢nil e

module _ (text : List ℕ) where
  one_byte : (p b : ℕ) (bs : List ℕ) → p < length text → drop p text ≡ b ∷ bs → between text p (suc p) ≡ b ∷ []
  one_byte p b bs h e = let one : suc p - p ≡ 1 = omega arith in ap (λ n. take n (drop p text)) one ∙ ap (take 1) e

  next-byte : (p b : ℕ) (bs : List ℕ) → drop p text ≡ b ∷ bs → drop (suc p) text ≡ bs
  next-byte p b bs e = let one : p + 1 ≡ suc p = omega arith in ap (λ n. drop n text) (sym one) ∙ sym (drop-drop 1 p text) ∙ ap (drop 1) e

  inside-text : (p b : ℕ) (bs : List ℕ) → drop p text ≡ b ∷ bs → p < length text
  inside-text p b bs e = let z = ap length e in let w = length-drop p text in omega arith

  byte_at : (p b : ℕ) (bs : List ℕ) → drop p text ≡ b ∷ bs → get_or text p 0 ≡ b
  byte_at p b bs e = head-eq_of_cons-eq (sym (drop-cons text p 0 (inside-text p b bs e)) ∙ e)

  -- A token of one byte.
  single : (p b : ℕ) (bs : List ℕ) (run : Bool) → drop p text ≡ b ∷ bs → tokens (drop p text) ≡ (b ∷ []) ∷ tokens bs → Ended text (suc p) → T (is_visible b) → First text p run (span p (suc p))
  single p b bs run e q f v =
      let h = inside-text p b bs e in
      record {
        is = a_token (omega arith) (omega arith) (omega arith) (q ∙ ap₂ (λ w l. w ∷ tokens l) (sym (one_byte p b bs h e)) (sym (next-byte p b bs e)));
        same = refl;
        here = λ t. refl;
        ended = f;
        seen = λ l. let byte = sym (byte_at p b bs e) in let back : p ≡ suc p - 1 = omega arith in record { first = subst (λ k. T (is_visible k)) byte v; last = subst (λ k. T (is_visible (get_or text k 0))) back (subst (λ k. T (is_visible k)) byte v) };
      }

  -- A byte before a run that begins at the next place.
  longer : (p b : ℕ) (bs : List ℕ) (run : Bool) {r : Span} → T (is_visible b) → drop p text ≡ b ∷ bs → tokens (drop p text) ≡ extend_first b (tokens bs) → starts_inside bs ≡ true → First text (suc p) true r → First text p run (span p r.end)
  longer p b bs run {r} v e q g h = by h.is (h.here refl) (tokens-begin bs g)
    where
      by : TokenAt text (suc p) r → r.start ≡ suc p → BeginsWithRun (tokens bs) → First text p run (span p r.end)
      by (no_token s f none) i n = absurd (some-token n (sym (ap tokens (next-byte p b bs e)) ∙ none))
      by (a_token f s w all) i n =
          let k = inside-text p b bs e in
          let byte : get_or text p 0 ≡ b = byte_at p b bs e in
          let word : between text p r.end ≡ b ∷ between text r.start r.end =
          between_first text p r.end (omega arith) k ∙ ap₂ (λ x n. x ∷ between text n r.end) byte (add-one p ∙ sym i) in
          record {
            is = a_token (omega arith) (omega arith) w (q ∙ ap (extend_first b) (ap tokens (sym (next-byte p b bs e)) ∙ all) ∙ ap (λ v. v ∷ tokens (drop r.end text)) (sym word));
            same = refl;
            here = λ t. refl;
            ended = h.ended;
            seen = λ l. record { first = subst (λ k. T (is_visible k)) (sym byte) v; last = (h.seen s).last };
          }

  -- A byte between tokens is passed over.
  passed : (p b : ℕ) (bs : List ℕ) {run : Bool} {r : Span} → drop p text ≡ b ∷ bs → tokens (drop p text) ≡ tokens bs → run ≡ false → First text (suc p) (starts_inside bs) r → First text p run r
  passed p b bs {run} {r} e q o h =
      let same : tokens (drop p text) ≡ tokens (drop (suc p) text) = q ∙ ap tokens (sym (next-byte p b bs e)) in
      record { is = by h.is same; same = h.same ∙ sym same; here = λ t. absurd (true≢false (sym t ∙ o)); ended = h.ended; seen = h.seen }
    where
      by : TokenAt text (suc p) r → tokens (drop p text) ≡ tokens (drop (suc p) text) → TokenAt text p r
      by (no_token s f none) k = no_token s f (k ∙ none)
      by (a_token f s w all) k = a_token (omega arith) s w (k ∙ all)

  step : (p b : ℕ) (bs : List ℕ) {c : ByteClass} (g : Bool) {r : Span} → HasClass b c → drop p text ≡ b ∷ bs → tokens (drop p text) ≡ add_to_tokens c g b (tokens bs) → starts_inside bs ≡ g → First text (suc p) g r → First text p (is_inside b) (add_to_first c g p r)
  step p b bs g (a_bracket t) e q i h = single p b bs (is_inside b) e q (bracket_ends (inside-text p b bs e) (subst (λ k. T (is_bracket k)) (sym (byte_at p b bs e)) t)) (bracket_visible b t)
  step p b bs true (an_inside t) e q i h = longer p b bs (is_inside b) (inside-visible b t) e q i h
  step p b bs false (an_inside t) e q i h = single p b bs (is_inside b) e q (run_ends (ap starts_inside (next-byte p b bs e) ∙ i)) (inside-visible b t)
  step p b bs g {r} (a_between m n) e q i h = passed p b bs e q n (subst (λ k. First text (suc p) k r) (sym i) h)

  first_of : (l : List ℕ) (p : ℕ) → p ≤ length text → drop p text ≡ l → First text p (starts_inside l) (first_token p l)
  unfolding first_token tokens
  first_of [] p h e =
      let whole : p ≡ length text = let z = ap length e in let w = length-drop p text in omega arith in
      record { is = no_token whole whole (ap tokens e); same = refl; here = λ t. refl; ended = run_ends (ap starts_inside e); seen = λ l. absurd (omega arith) }
  first_of (b ∷ bs) p h e =
      let k = inside-text p b bs e in
      step p b bs (starts_inside bs) (class_of_has b) e (ap tokens e) refl (first_of bs (suc p) (omega arith) (next-byte p b bs e))

  pub token-from : (at : ℕ) → at ≤ length text → TokenAt text at (token_from text at)
  token-from at h = (first_of (drop at text) at h refl).is

  -- The tokens from a token's start on are those from the place on from which it was sought.
  pub token-same : (at : ℕ) → at ≤ length text → tokens (drop (token_from text at).start text) ≡ tokens (drop at text)
  token-same at h = (first_of (drop at text) at h refl).same

  pub token-ended : (at : ℕ) → at ≤ length text → Ended text (token_from text at).end
  token-ended at h = (first_of (drop at text) at h refl).ended

  pub token-seen : (at : ℕ) → at ≤ length text → (token_from text at).start < (token_from text at).end → Seen text (token_from text at)
  token-seen at h = (first_of (drop at text) at h refl).seen

  -- What `next_token` gives is that token.
  pub token-is : {at : ℕ} {r : Span} → at ≤ length text → TokenAt text at r → token_from text at ≡ r
  token-is {at} h t = token_unique (token-from at h) t

-- What a token says to a caller: it stands from the place on, inside the text.
pub record Ordered (text : List ℕ) (at : ℕ) (r : Span) : Type 0 where
  pub forward : at ≤ r.start
  pub ordered : r.start ≤ r.end
  pub within : r.end ≤ length text

pub token-ordered : {text : List ℕ} {at : ℕ} {r : Span} → at ≤ length text → TokenAt text at r → Ordered text at r
token-ordered h (no_token s e none) = record { forward = omega arith; ordered = omega arith; within = omega arith }
token-ordered h (a_token f s w all) = record { forward = f; ordered = omega arith; within = w }

no_tokens : tokens [] ≡ []
unfolding tokens
no_tokens = refl

-- Up to before the end of a token the bytes have the tokens that stand there.
pub tokens-up_to : (text : List ℕ) {a e : ℕ} → a ≤ e → Ended text e → tokens (drop a text) ≡ tokens (between text a e) ++ tokens (drop e text)
tokens-up_to text {a} {e} h (run_ends f) = ap tokens (between_split text a e h) ∙ tokens_append (between text a e) (drop e text) f
tokens-up_to text {a} h (bracket_ends {p} l t) = by (dec_le a p)
  where
    none : tokens (between text a p) ++ ((get_or text p 0 ∷ []) ∷ tokens []) ≡ tokens (between text a p) ++ ((get_or text p 0 ∷ []) ∷ [])
    none = ap (λ ts. tokens (between text a p) ++ ((get_or text p 0 ∷ []) ∷ ts)) no_tokens

    by : Dec (a ≤ p) → tokens (drop a text) ≡ tokens (between text a (suc p)) ++ tokens (drop (suc p) text)
    by (yes k) =
        let word : between text a (suc p) ≡ between text a p ++ (get_or text p 0 ∷ []) = ap (between text a) (sym (add-one p)) ∙ between-last text a p k l in
        let own : tokens (between text a (suc p)) ≡ tokens (between text a p) ++ ((get_or text p 0 ∷ []) ∷ []) = ap tokens word ∙ tokens_bracket (between text a p) (get_or text p 0) [] (a_bracket t) ∙ none in
        ap tokens (between_split text a p k ∙ ap (λ m. between text a p ++ m) (drop-cons text p 0 l))
        ∙ tokens_bracket (between text a p) (get_or text p 0) (drop (suc p) text) (a_bracket t)
        ∙ sym (ap (λ ts. ts ++ tokens (drop (suc p) text)) own ∙ append_assoc (tokens (between text a p)) ((get_or text p 0 ∷ []) ∷ []) (tokens (drop (suc p) text)))
    by (no n) =
        let here : a ≡ suc p = omega arith in
        ap (λ k. tokens (drop k text)) here ∙ ap (λ ts. ts ++ tokens (drop (suc p) text)) (sym (ap (λ k. tokens (between text k (suc p))) here ∙ ap tokens (between_none text (suc p)) ∙ no_tokens))
