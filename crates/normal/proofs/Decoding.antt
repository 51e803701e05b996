-- The rows of a sheet's entries are the constraints of its normal form, one by one and in order, where a node stands for its expression. So there are as
-- many entries as constraints. (Saying shows the same of the records, from the text.)
use Prim.Native.Nat.{ℕ, suc, ◌+◌}
use native.Mathlib.Omega.{arith}
use mathlib.Core.Path.{◌≡◌, refl, sym, ◌∙◌, ap, ap₂}
use mathlib.Core.Bool.{cond}
use mathlib.Core.List.{List, [], ◌∷◌, ◌++◌, map, map-append}
use lib.Dec.{eqb}
use lib.ListN.{length, length-append, length-map}
use Rattle.meaning.specs.Value.{equal}
use Rattle.meaning.specs.Expression.{Expression, integer, name, first, next, negation, binary, conditional, fby, Sign, comparison, Constraint, always, until, left_side, right_side, Sheet}
use Rattle.meaning.specs.NormalForm.{added, added_count, rewritten, equation, added_entries, added_by, rewritten_constraint, entries_by, all_added, all_rewritten, all_entries, normal_form}
use Rattle.nodes.specs.Code.{sign_code, sign_at}
use Rattle.nodes.proofs.SignCodes.{sign-code}
use Rattle.spans.specs.Postfix.{in_postfix, node_count, node_expressions}
use Rattle.normal_entries.specs.Row.{Row}
use Rattle.normal.specs.Rows.{Rewriting, rewriting, fby_entries, until_entries, Line, until_line, always_line, relation_line, line_at, rewriting_lines, own_rows, added_rows, streams_after}
use Rattle.normal.specs.Encoded.{expression_at, normal_rows, entry_record, normal_entries}
use Rattle.normal.proofs.Places.{Stand, Stand-append, stand_self, root_at, sides_stand}

-- ---- how many streams are added

pub added-counted : (p : ℕ) (e : Expression) → (rewriting p e).added ≡ added_count e
unfolding rewriting added
added-counted p (integer z) = refl
added-counted p (name k) = refl
added-counted p (first e) = added-counted p e
added-counted p (next e) = ap (λ n. suc (suc n)) (added-counted p e)
added-counted p (negation e) = added-counted p e
added-counted p (binary o a b) =
    let h = added-counted p a in
    let k = added-counted (p + node_count a) b in
    omega (arith, length-append (added a) (added b))
added-counted p (conditional c a b) =
    let g = added-counted p c in
    let h = added-counted (p + node_count c) a in
    let k = added-counted (p + node_count c + node_count a) b in
    omega (arith, length-append (added c) (added a ++ added b), length-append (added a) (added b))
added-counted p (fby a b) =
    let h = added-counted p a in
    let k = added-counted (p + node_count a) b in
    omega (arith, length-append (added a) (fby a b ∷ a ∷ b ∷ added b))

-- ---- signs

pub always-line : (s : Sign) (l r : ℕ) (a b : Rewriting) → relation_line (sign_code s) l r a b ≡ always_line (sign_code s) l r a b
always-line s l r a b = ap (λ t. cond t (until_line l r a b) (always_line (sign_code s) l r a b)) (sign-code s).1

-- The constraint of a row, where a node stands for the expression of the sheet's node.
unfoldable pub decoded : Sheet → Row → Constraint
decoded s r =
    cond (eqb r.kind 1)
    (always (sign_at r.relation) (rewritten r.left_added (expression_at s r.left)) (rewritten r.right_added (expression_at s r.right)))
    (cond (eqb r.kind 2)
    (until (name r.left) (name r.right))
    (cond (eqb r.kind 3)
    (equation r.left (rewritten r.right_added (expression_at s r.right)))
    (cond (eqb r.kind 4)
    (equation r.left (next (name r.right)))
    (always (comparison equal) (first (name r.left)) (first (name r.right))))))

module _ (s : Sheet) where
  abbrev pub L : List Expression
  L = node_expressions s.constraints

  -- What a row says.
  abbrev pub says : Row → Constraint
  says r = decoded s r

  -- ---- expressions

  abbrev SaysAt : ℕ → Expression → Type 0
  SaysAt p e = (n : ℕ) → map says ((rewriting p e).rows n) ≡ added_entries n e

  joined_says : (p : ℕ) (a : Expression) (n : ℕ) (b : Rewriting) (entries : ℕ → List Constraint) → SaysAt p a → ((m : ℕ) → map says (b.rows m) ≡ entries m)
      → map says ((rewriting p a).rows n ++ b.rows (n + (rewriting p a).added)) ≡ added_entries n a ++ entries (n + added_count a)
  joined_says p a n b entries f g =
      map-append says ((rewriting p a).rows n) (b.rows (n + (rewriting p a).added))
      ∙ ap₂ ◌++◌ (f n) (g (n + (rewriting p a).added) ∙ ap (λ k. entries (n + k)) (added-counted p a))

  pub rows_say : (p : ℕ) (e : Expression) → Stand L p (in_postfix e) → SaysAt p e
  unfolding rewriting added_entries in_postfix decoded
  rows_say p (integer z) h n = refl
  rows_say p (name k) h n = refl
  rows_say p (first e) h n = rows_say p e (Stand-append L p (in_postfix e) (first e ∷ []) h).0 n
  rows_say p (next e) h n =
      let g = (Stand-append L p (in_postfix e) (next e ∷ []) h).0 in
      let r = root_at L p e g in
      let f = rows_say p e g (suc (suc n)) in
      λ i. equation (suc n) (rewritten (suc (suc n)) (r i)) ∷ equation n (next (name (suc n))) ∷ f i
  rows_say p (negation e) h n = rows_say p e (Stand-append L p (in_postfix e) (negation e ∷ []) h).0 n
  rows_say p (binary o a b) h n =
      let g = Stand-append L p (in_postfix a) (in_postfix b ++ (binary o a b ∷ [])) h in
      let k = Stand-append L (p + node_count a) (in_postfix b) (binary o a b ∷ []) g.1 in
      joined_says p a n (rewriting (p + node_count a) b) (λ m. added_entries m b) (rows_say p a g.0) (rows_say (p + node_count a) b k.0)
  rows_say p (conditional c a b) h n =
      let f = Stand-append L p (in_postfix c) (in_postfix a ++ (in_postfix b ++ (conditional c a b ∷ []))) h in
      let g = Stand-append L (p + node_count c) (in_postfix a) (in_postfix b ++ (conditional c a b ∷ [])) f.1 in
      let k = Stand-append L (p + node_count c + node_count a) (in_postfix b) (conditional c a b ∷ []) g.1 in
      joined_says p c n (record { added = (rewriting (p + node_count c) a).added + (rewriting (p + node_count c + node_count a) b).added; rows = λ m. (rewriting (p + node_count c) a).rows m ++ (rewriting (p + node_count c + node_count a) b).rows (m + (rewriting (p + node_count c) a).added) })
      (λ m. added_entries m a ++ added_entries (m + added_count a) b) (rows_say p c f.0)
      (λ m. joined_says (p + node_count c) a m (rewriting (p + node_count c + node_count a) b) (λ m. added_entries m b) (rows_say (p + node_count c) a g.0) (rows_say (p + node_count c + node_count a) b k.0))
  rows_say p (fby a b) h n =
      let g = Stand-append L p (in_postfix a) (in_postfix b ++ (fby a b ∷ [])) h in
      let k = Stand-append L (p + node_count a) (in_postfix b) (fby a b ∷ []) g.1 in
      let l = p + node_count a in
      let ra = root_at L p a g.0 in
      let rb = root_at L l b k.0 in
      joined_says p a n (record { added = 0; rows = λ x. fby_entries l (l + node_count b) n x ++ (rewriting l b).rows (suc (suc (suc x))) })
      (λ x. equation (suc x) (rewritten n a) ∷ equation (suc (suc x)) (rewritten (suc (suc (suc x))) b) ∷ always (comparison equal) (first (name x)) (first (name (suc x))) ∷ equation (suc (suc x)) (next (name x)) ∷ added_entries (suc (suc (suc x))) b)
      (rows_say p a g.0)
      (λ x. let f = rows_say l b k.0 (suc (suc (suc x))) in
      λ i. equation (suc x) (rewritten n (ra i)) ∷ equation (suc (suc x)) (rewritten (suc (suc (suc x))) (rb i)) ∷ always (comparison equal) (first (name x)) (first (name (suc x))) ∷ equation (suc (suc x)) (next (name x)) ∷ f i)

  -- ---- constraints

  -- What the line of a constraint says.
  record LineSays (p : ℕ) (c : Constraint) (m : Line) : Type 0 where
    own : (n : ℕ) → says (m.own n) ≡ rewritten_constraint n c
    entries : (n : ℕ) → map says (m.adds.rows n) ≡ entries_by n c
    count : m.adds.added ≡ length (added_by c)

  line-says : (p : ℕ) (c : Constraint) → Stand L p (in_postfix (left_side c)) → Stand L (p + node_count (left_side c)) (in_postfix (right_side c)) → LineSays p c (line_at p c)
  unfolding rewritten_constraint entries_by added_by decoded
  line-says p (always t a b) ha hb =
      let l = p + node_count a in
      let ca = added-counted p a in
      let cb = added-counted l b in
      let ra = root_at L p a ha in
      let rb = root_at L l b hb in
      let q = always-line t l (l + node_count b) (rewriting p a) (rewriting l b) in
      record {
        own = λ n. ap (λ m. says (m.own n)) q ∙ (λ i. always ((sign-code t).0 i) (rewritten n (ra i)) (rewritten (n + ca i) (rb i)));
        entries = λ n. ap (λ m. map says (m.adds.rows n)) q ∙ joined_says p a n (rewriting l b) (λ m. added_entries m b) (rows_say p a ha) (rows_say l b hb);
        count = ap (λ m. m.adds.added) q ∙ omega (arith, length-append (added a) (added b));
      }
  line-says p (until a b) ha hb =
      let l = p + node_count a in
      let ca = added-counted p a in
      let cb = added-counted l b in
      let ra = root_at L p a ha in
      let rb = root_at L l b hb in
      record {
        own = λ n. (λ i. until (name (n + ca i)) (name (suc (n + ca i))));
        entries = λ n.
            joined_says p a n (record { added = 0; rows = λ x. until_entries l (l + node_count b) n x ++ (rewriting l b).rows (suc (suc x)) })
            (λ x. equation x (rewritten n a) ∷ equation (suc x) (rewritten (suc (suc x)) b) ∷ added_entries (suc (suc x)) b) (rows_say p a ha)
            (λ x. let f = rows_say l b hb (suc (suc x)) in λ i. equation x (rewritten n (ra i)) ∷ equation (suc x) (rewritten (suc (suc x)) (rb i)) ∷ f i);
        count = omega (arith, length-append (added a) (a ∷ b ∷ added b));
      }

  pub line-count : (p : ℕ) (c : Constraint) → Stand L p (in_postfix (left_side c)) → Stand L (p + node_count (left_side c)) (in_postfix (right_side c)) → (line_at p c).adds.added ≡ length (added_by c)
  line-count p c ha hb = (line-says p c ha hb).count

  pub own_say : (p n : ℕ) (cs : List Constraint) → Stand L p (node_expressions cs) → map says (own_rows n (rewriting_lines p cs)) ≡ all_rewritten n cs
  unfolding rewriting_lines own_rows all_rewritten
  own_say p n [] h = refl
  own_say p n (c ∷ cs) h =
      let g = sides_stand L p c cs h in
      let w = line-says p c g.0 g.1 in
      ap₂ ◌∷◌ (w.own n) (own_say (p + node_count (left_side c) + node_count (right_side c)) _ cs g.2 ∙ ap (λ k. all_rewritten (n + k) cs) w.count)

  pub added_say : (p n : ℕ) (cs : List Constraint) → Stand L p (node_expressions cs) → map says (added_rows n (rewriting_lines p cs)) ≡ all_entries n cs
  unfolding rewriting_lines added_rows all_entries
  added_say p n [] h = refl
  added_say p n (c ∷ cs) h =
      let g = sides_stand L p c cs h in
      let w = line-says p c g.0 g.1 in
      map-append says ((line_at p c).adds.rows n) _
      ∙ ap₂ ◌++◌ (w.entries n) (added_say (p + node_count (left_side c) + node_count (right_side c)) _ cs g.2 ∙ ap (λ k. all_entries (n + k) cs) w.count)

  all_say : map says (normal_rows s) ≡ (normal_form s).constraints
  unfolding normal_form
  all_say =
      map-append says (own_rows (length s.streams) (rewriting_lines 0 s.constraints)) (added_rows (length s.streams) (rewriting_lines 0 s.constraints))
      ∙ ap₂ ◌++◌ (own_say 0 (length s.streams) s.constraints (stand_self L)) (added_say 0 (length s.streams) s.constraints (stand_self L))

  -- The streams that the lines add are the added streams.
  pub streams-counted : (p n : ℕ) (cs : List Constraint) → Stand L p (node_expressions cs) → streams_after n (rewriting_lines p cs) ≡ n + length (all_added cs)
  unfolding rewriting_lines streams_after all_added
  streams-counted p n [] h = omega arith
  streams-counted p n (c ∷ cs) h =
      let g = sides_stand L p c cs h in
      let w = line-says p c g.0 g.1 in
      streams-counted (p + node_count (left_side c) + node_count (right_side c)) _ cs g.2 ∙ omega (arith, w.count, length-append (added_by c) (all_added cs))

-- Decoded one by one, the rows are the constraints of the normal form.
pub rows_decoded : (s : Sheet) → map (decoded s) (normal_rows s) ≡ (normal_form s).constraints
rows_decoded s = all_say s

pub rows-counted : (s : Sheet) → length (normal_rows s) ≡ length (normal_form s).constraints
rows-counted s = sym (length-map (normal_rows s) (decoded s)) ∙ ap length (rows_decoded s)

pub encoded_length : (text : List ℕ) (s : Sheet) → length (normal_entries text s) ≡ length (normal_form s).constraints
encoded_length text s = length-map (normal_rows s) (entry_record text s) ∙ rows-counted s
