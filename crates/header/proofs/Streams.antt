-- How the three header lines are read stream by stream: what the streams before the lines' places gave, and one stream more. From what is found
-- of a token and of an integer at a place, and from the laws of stores in padded tables.
use Prim.Native.Nat.{ℕ, suc, ◌+◌, ◌*◌, ◌-◌, ◌≤◌, ◌<◌}
use mathlib.Core.Path.{◌≡◌, refl, sym, ap, ap₂, ◌∙◌}
use mathlib.Core.Bool.{Bool, true, false, cond, ◌&&◌, ◌||◌, true≢false, or-false}
use mathlib.Core.List.{List, [], ◌∷◌, ◌++◌, map, append-nil, append_assoc, map-append}
use mathlib.Core.Option.{Option, some, none}
use Rattle.std.specs.Result.{is_err, result_unwrap_or}
use native.Mathlib.Omega.{arith}
use lib.Dec.{eqb}
use lib.IntN.{ℤ, pos}
use lib.ListN.{length, drop, set, replicate, length-append, length-map, length-replicate, replicate-append-replicate}
use lib.Seq.{sets, append_snoc, set-append_seam}
use lib.Signed.{lt_z}
use mir.Syntax.{w64}
use mir.ValLaws.{to_z-of_z}
use borrow.Author.Tests.{eqb-true, eqb-false}
use Rattle.basics.proofs.Reflects.{to_true, T-reflects}
use Rattle.basics.proofs.Tests.{T-of_true}
use Rattle.arithmetic.proofs.Machine.{held}
use Rattle.text.specs.Bytes.{Token, tokens}
use Rattle.text.specs.Token.{is_name, is_integer, integer_value}
use Rattle.meaning.specs.Expression.{Stream}
use Rattle.meaning.specs.Window.{join_over}
use Rattle.sheet.specs.Parser.{and_then}
use Rattle.sheet.specs.Reading.{any_of, is_beyond, is_range_faulty, stream_from, streams_from}
use Rattle.sheet.proofs.Names.{name-short}
use Rattle.scan.specs.Place.{between, TokenAt, no_token, a_token}
use Rattle.scan.specs.Integer.{IntegerRead, no_integer, integer_read}
use Rattle.scan.specs.declared.Span.{Span}
use Rattle.scan.proofs.Tokens.{between_none, token-empty, token-tokens}
use Rattle.parse.specs.Bounded.{zero_beyond}
use Rattle.parse.proofs.Leaves.{IsInteger, an_integer, no_integer_lem, integer-fits}
use Rattle.parse.proofs.Trees.{any_of-append}
use Rattle.header.specs.Streams.{padded, name_bytes, name_lengths, StreamTables, stream_tables, no_stream_tables, stream_tables_of, StreamsOutcome, no_form, are_read}

-- ---- stores in a padded list

module _ {A : Type 0} (n : ℕ) (z : A) where
  -- One element more.
  pub padded-set : (l : List A) (a : A) → length l < n → set (padded n z l) (length l) a ≡ padded n z (l ++ (a ∷ []))
  padded-set l a h =
      let e = length-append l (a ∷ []) in
      let room : n - length l ≡ suc (n - length (l ++ (a ∷ []))) = omega arith in
      ap (λ k. set (l ++ replicate k z) (length l) a) room
      ∙ set-append_seam l z (replicate (n - length (l ++ (a ∷ []))) z) a
      ∙ sym (append_snoc l a (replicate (n - length (l ++ (a ∷ []))) z))

  -- Several elements more.
  pub padded_sets : (l vs : List A) → length l + length vs ≤ n → sets (padded n z l) (length l) vs ≡ padded n z (l ++ vs)
  padded_sets l [] h = ap (padded n z) (sym (append-nil l))
  padded_sets l (v ∷ vs) h =
      let e = length-append l (v ∷ []) in
      let next : suc (length l) ≡ length (l ++ (v ∷ [])) = omega arith in
      ap₂ (λ m k. sets m k vs) (padded-set l v (omega arith)) next
      ∙ padded_sets (l ++ (v ∷ [])) vs (omega arith)
      ∙ ap (padded n z) (append_snoc l v vs)

  -- What is padded is padded further.
  pub padded-further : (l vs : List A) (m : ℕ) → length vs ≤ m → length l + m ≤ n → padded n z (l ++ vs) ≡ padded n z (l ++ padded m z vs)
  padded-further l vs m h k =
      let r = replicate (m - length vs) z in
      let a = length-append l vs in
      let b = length-append l (vs ++ r) in
      let c = length-append vs r in
      let d = length-replicate (m - length vs) z in
      let room : n - length (l ++ vs) ≡ m - length vs + (n - length (l ++ (vs ++ r))) = omega arith in
      ap (λ i. (l ++ vs) ++ replicate i z) room
      ∙ ap (λ x. (l ++ vs) ++ x) (sym (replicate-append-replicate (m - length vs) (n - length (l ++ (vs ++ r))) z))
      ∙ sym (append_assoc (l ++ vs) r (replicate (n - length (l ++ (vs ++ r))) z))
      ∙ ap (λ x. x ++ replicate (n - length (l ++ (vs ++ r))) z) (append_assoc l vs r)

  padded-length : (l : List A) → length l ≤ n → length (padded n z l) ≡ n
  padded-length l h = let a = length-append l (replicate (n - length l) z) in let b = length-replicate (n - length l) z in omega arith

  -- A table of a value of each element.
  pub padded-map : {X : Type 0} (f : X → A) (xs : List X) (x : X) → length xs < n → set (padded n z (map f xs)) (length xs) (f x) ≡ padded n z (map f (xs ++ (x ∷ [])))
  padded-map f xs x h =
      let e = length-map xs f in
      ap (λ k. set (padded n z (map f xs)) k (f x)) (sym e)
      ∙ padded-set (map f xs) (f x) (omega arith)
      ∙ ap (padded n z) (sym (map-append f xs (x ∷ [])))

-- ---- one stream more in the tables

join_over-more : {X Y : Type 0} (f : X → List Y) (xs : List X) (x : X) → join_over f (xs ++ (x ∷ [])) ≡ join_over f xs ++ f x
join_over-more f [] x = append-nil (f x)
join_over-more f (y ∷ xs) x = ap (λ l. f y ++ l) (join_over-more f xs x) ∙ sym (append_assoc (f y) (join_over f xs) (f x))

-- The tables with a stream stored at a place.
abbrev pub with_stream : StreamTables → ℕ → Stream → StreamTables
with_stream t i x =
    stream_tables
    (sets t.names (i * 8) x.name)
    (set t.lengths i (length x.name))
    (set t.lows i (zero_beyond x.range.low))
    (set t.highs i (zero_beyond x.range.high))

module _ (before : List Stream) (x : Stream) (few : length before < 8) (room : length (name_bytes before) ≡ length before * 8) (short : length x.name ≤ 8) where
  abbrev more : List Stream
  more = before ++ (x ∷ [])

  pub room-more : length (name_bytes more) ≡ length more * 8
  room-more =
      let e = ap length (join_over-more (λ y. padded 8 0 y.name) before x) in
      let a = length-append (name_bytes before) (padded 8 0 x.name) in
      let b = padded-length 8 0 x.name short in
      let c = length-append before (x ∷ []) in
      omega arith

  names_more : sets (padded 64 0 (name_bytes before)) (length before * 8) x.name ≡ padded 64 0 (name_bytes more)
  names_more =
      ap (λ i. sets (padded 64 0 (name_bytes before)) i x.name) (sym room)
      ∙ padded_sets 64 0 (name_bytes before) x.name (omega arith)
      ∙ padded-further 64 0 (name_bytes before) x.name 8 short (omega arith)
      ∙ ap (padded 64 0) (sym (join_over-more (λ y. padded 8 0 y.name) before x))

  -- Storing one stream more gives the tables of the streams with it.
  pub tables_more : with_stream (stream_tables_of before) (length before) x ≡ stream_tables_of more
  tables_more =
      let n = padded 64 0 (name_bytes more) in
      let k = padded 8 0 (name_lengths more) in
      let l = padded 8 (pos 0) (map (λ y. zero_beyond y.range.low) more) in
      let t = with_stream (stream_tables_of before) (length before) x in
      ap (λ m. stream_tables m t.lengths t.lows t.highs) names_more
      ∙ ap (λ m. stream_tables n m t.lows t.highs) (padded-map 8 0 (λ y. length y.name) before x few)
      ∙ ap (λ m. stream_tables n k m t.highs) (padded-map 8 (pos 0) (λ y. zero_beyond y.range.low) before x few)
      ∙ ap (λ m. stream_tables n k l m) (padded-map 8 (pos 0) (λ y. zero_beyond y.range.high) before x few)

-- ---- one stream of the lines

-- The first token passes the test.
abbrev first_is : (Token → Bool) → List Token → Bool
first_is p [] = false
first_is p (t ∷ ts) = p t

-- Where a token of the three is missing or has not its form, the lines give no streams.
streams-none : (n : Token) (ns ls hs : List Token) → is_name n && first_is is_integer ls && first_is is_integer hs ≡ false → streams_from (n ∷ ns) ls hs ≡ none
unfolding streams_from
streams-none n ns [] hs e = refl
streams-none n ns (l ∷ ls) [] e = refl
streams-none n ns (l ∷ ls) (h ∷ hs) e = rw e

-- Where the three have their forms, the lines give their stream and those of the later tokens.
streams-more : (n l h : Token) (ns ls hs : List Token) → is_name n ≡ true → is_integer l ≡ true → is_integer h ≡ true
    → streams_from (n ∷ ns) (l ∷ ls) (h ∷ hs) ≡ and_then (streams_from ns ls hs) (λ ss. some (stream_from n l h ∷ ss))
unfolding streams_from
streams-more n l h ns ls hs a b c = rw (a, b, c)

-- A name fits the eight bytes that are kept for it.
pub name-fits : (t : Token) → is_name t ≡ true → length t ≤ 8
name-fits t e = name-short t (T-of_true (is_name t) e)

-- Where a line's tokens are used up, what stands at the place is no integer.
no_bytes : (text : List ℕ) (s : Span) → s.start ≡ length text → s.end ≡ length text → between text s.start s.end ≡ []
no_bytes text s p q = ap₂ (between text) p q ∙ between_none text (length text)

module _ {text : List ℕ} {at : ℕ} {s : Span} where
  first-integer : TokenAt text at s → first_is is_integer (tokens (drop at text)) ≡ is_integer (between text s.start s.end)
  unfolding is_integer
  first-integer (no_token p q e) = ap (first_is is_integer) e ∙ sym (ap is_integer (no_bytes text s p q))
  first-integer (a_token f g w e) = ap (first_is is_integer) e

  integer-tokens : TokenAt text at s → is_integer (between text s.start s.end) ≡ true → tokens (drop at text) ≡ between text s.start s.end ∷ tokens (drop s.end text)
  unfolding is_integer
  integer-tokens (no_token p q e) t = absurd (true≢false (sym t ∙ ap is_integer (no_bytes text s p q)))
  integer-tokens (a_token f g w e) t = e

-- An integer's value is stored as read, and as 0 beyond the bound.
stored-value : {w : Token} {b : Bool} {v : ℤ} → IsInteger w b v → held v ≡ zero_beyond (integer_value w)
stored-value {v = v} i = to_z-of_z w64 v (integer-fits i) ∙ i.near

-- Where both values are within the bound, they are stored as they are.
stored-order : (x y : ℤ) (a b : Bool) → a || b || lt_z (cond b (pos 0) y) (cond a (pos 0) x) ≡ a || b || lt_z y x
stored-order x y true b = refl
stored-order x y false true = refl
stored-order x y false false = refl

then_more : (o : Option (List Stream)) (before : List Stream) (x : Stream)
    → and_then (and_then o (λ ss. some (x ∷ ss))) (λ ss. some (before ++ ss)) ≡ and_then o (λ ss. some ((before ++ (x ∷ [])) ++ ss))
then_more none before x = refl
then_more (some ss) before x = ap some (sym (append_snoc before x ss))

-- ---- the streams before the lines' places

-- What was stored is that of the streams before the places, and what the lines give is these streams and those that the tokens from the places on give.
pub record SoFar (names lows highs : List ℕ) (name_at low_at high_at count : ℕ) (faulty : Bool) (tables : StreamTables) : Type 0 where
  pub before : List Stream
  pub same : streams_from (tokens names) (tokens lows) (tokens highs)
      ≡ and_then (streams_from (tokens (drop name_at names)) (tokens (drop low_at lows)) (tokens (drop high_at highs))) (λ ss. some (before ++ ss))
  pub number : count ≡ length before
  pub fault : faulty ≡ any_of is_range_faulty before
  pub stored : tables ≡ stream_tables_of before
  pub room : length (name_bytes before) ≡ length before * 8
  pub few : count + length (tokens (drop name_at names)) ≤ 8

then_some : {X : Type 0} (o : Option X) → o ≡ and_then o some
then_some none = refl
then_some (some x) = refl

pub sofar_start : (names lows highs : List ℕ) {tables : StreamTables} → length (tokens names) ≤ 8 → tables ≡ no_stream_tables → SoFar names lows highs 0 0 0 0 false tables
sofar_start names lows highs h e =
    record { before = []; same = then_some (streams_from (tokens names) (tokens lows) (tokens highs)); number = refl; fault = refl; stored = e; room = refl; few = omega arith }

module _ {names lows highs : List ℕ} {name_at low_at high_at count : ℕ} {faulty : Bool} {tables : StreamTables} (k : SoFar names lows highs name_at low_at high_at count faulty tables)
    {name low high : Span} (name_found : TokenAt names name_at name) (low_found : TokenAt lows low_at low) (high_found : TokenAt highs high_at high) where
  abbrev name_token : Token
  name_token = between names name.start name.end

  abbrev low_token : Token
  low_token = between lows low.start low.end

  abbrev high_token : Token
  high_token = between highs high.start high.end

  abbrev later_names : List Token
  later_names = tokens (drop name.end names)

  abbrev later_lows : List Token
  later_lows = tokens (drop low.end lows)

  abbrev later_highs : List Token
  later_highs = tokens (drop high.end highs)

  -- The lines give the streams before the places and what the tokens from there on give.
  from-tokens : (ns ls hs : List Token) {o : Option (List Stream)} → tokens (drop name_at names) ≡ ns → tokens (drop low_at lows) ≡ ls → tokens (drop high_at highs) ≡ hs
      → streams_from ns ls hs ≡ o → streams_from (tokens names) (tokens lows) (tokens highs) ≡ and_then o (λ ss. some (k.before ++ ss))
  from-tokens ns ls hs a b c e =
      k.same
      ∙ ap (λ o. and_then o (λ ss. some (k.before ++ ss))) (ap₂ (λ x y. streams_from x y (tokens (drop high_at highs))) a b ∙ ap (streams_from ns ls) c ∙ e)

  -- Line 1 has no token more.
  module _ (empty_name : name.start ≡ name.end) where
    pub lows-left : (low.start ≡ low.end → ⊥) → streams_from (tokens names) (tokens lows) (tokens highs) ≡ none
    unfolding streams_from
    lows-left n = from-tokens [] (low_token ∷ later_lows) (tokens (drop high_at highs)) (token-empty name_found empty_name) (token-tokens low_found n) refl refl

    module _ (empty_low : low.start ≡ low.end) where
      pub highs-left : (high.start ≡ high.end → ⊥) → streams_from (tokens names) (tokens lows) (tokens highs) ≡ none
      unfolding streams_from
      highs-left n = from-tokens [] [] (high_token ∷ later_highs) (token-empty name_found empty_name) (token-empty low_found empty_low) (token-tokens high_found n) refl

      pub all_read : high.start ≡ high.end → StreamsOutcome (tokens names) (tokens lows) (tokens highs) (record { ok = true; count = count; faulty = faulty }) tables
      unfolding streams_from
      all_read n =
          are_read
          k.before
          (from-tokens [] [] [] (token-empty name_found empty_name) (token-empty low_found empty_low) (token-empty high_found n) refl ∙ ap some (append-nil k.before))
          (ap₂ (λ i b. record { ok = true; count = i; faulty = b }) k.number k.fault)
          k.stored

    -- All three lines end there, or they are not of the form.
    pub lines_end : StreamsOutcome (tokens names) (tokens lows) (tokens highs) (record { ok = eqb low.start low.end && eqb high.start high.end; count = count; faulty = faulty }) tables
    lines_end = by (eqb low.start low.end) (eqb high.start high.end) refl refl
      where
        by : (a b : Bool) → eqb low.start low.end ≡ a → eqb high.start high.end ≡ b → StreamsOutcome (tokens names) (tokens lows) (tokens highs) (record { ok = a && b; count = count; faulty = faulty }) tables
        by true true e f = all_read (eqb-true _ _ e) (eqb-true _ _ f)
        by true false e f = no_form (highs-left (eqb-true _ _ e) (eqb-false _ _ f)) refl
        by false b e f = no_form (lows-left (eqb-false _ _ e)) refl

  -- Line 1 has one token more.
  module _ (a_name : name.start ≡ name.end → ⊥) where
    pub count_low : count < 8
    count_low = let e = ap length (token-tokens name_found a_name) in let f = k.few in omega arith

    missing : is_name name_token && first_is is_integer (tokens (drop low_at lows)) && first_is is_integer (tokens (drop high_at highs)) ≡ false → streams_from (tokens names) (tokens lows) (tokens highs) ≡ none
    missing h =
        let ls = tokens (drop low_at lows) in
        let hs = tokens (drop high_at highs) in
        from-tokens (name_token ∷ later_names) ls hs (token-tokens name_found a_name) refl refl (streams-none name_token later_names ls hs h)

    pub no_name : is_name name_token ≡ false → streams_from (tokens names) (tokens lows) (tokens highs) ≡ none
    no_name h = missing (ap (λ b. b && first_is is_integer (tokens (drop low_at lows)) && first_is is_integer (tokens (drop high_at highs))) h)

    module _ (is_aname : is_name name_token ≡ true) where
      pub no_low : {l : IntegerRead} → l ≡ integer_read low_token → l ≡ no_integer → streams_from (tokens names) (tokens lows) (tokens highs) ≡ none
      no_low p h = missing (ap₂ (λ a b. a && b && first_is is_integer (tokens (drop high_at highs))) is_aname (first-integer low_found ∙ no_integer_lem low_token p h))

      module _ {l : IntegerRead} (low_read : l ≡ integer_read low_token) (low_some : l ≡ no_integer → ⊥) where
        low_integer : {b : Bool} {v : ℤ} → b ≡ is_err l → v ≡ result_unwrap_or l (pos 0) → IsInteger low_token b v
        low_integer = an_integer low_token low_read low_some

        low_is : is_integer low_token ≡ true
        low_is = to_true (T-reflects (is_integer low_token)) (low_integer refl refl).is

        pub no_high : {h : IntegerRead} → h ≡ integer_read high_token → h ≡ no_integer → streams_from (tokens names) (tokens lows) (tokens highs) ≡ none
        no_high p h =
            missing
            (ap₂ (λ a b. a && b && first_is is_integer (tokens (drop high_at highs))) is_aname (first-integer low_found ∙ low_is) ∙ (first-integer high_found ∙ no_integer_lem high_token p h))

        module _ {h : IntegerRead} (high_read : h ≡ integer_read high_token) (high_some : h ≡ no_integer → ⊥) where
          high_integer : {b : Bool} {v : ℤ} → b ≡ is_err h → v ≡ result_unwrap_or h (pos 0) → IsInteger high_token b v
          high_integer = an_integer high_token high_read high_some

          high_is : is_integer high_token ≡ true
          high_is = to_true (T-reflects (is_integer high_token)) (high_integer refl refl).is

          abbrev stream : Stream
          stream = stream_from name_token low_token high_token

          -- What is found of a range as stored is what the range is.
          range-fault : {b c : Bool} {v w : ℤ} → IsInteger low_token b v → IsInteger high_token c w → b || c || lt_z (held w) (held v) ≡ is_range_faulty stream
          range-fault {v = v} {w = w} low_is_integer high_is_integer =
              ap₂ (λ a b. a || b || lt_z (held w) (held v)) low_is_integer.far high_is_integer.far
              ∙ ap₂ (λ y x. is_beyond (integer_value low_token) || is_beyond (integer_value high_token) || lt_z y x) (stored-value high_is_integer) (stored-value low_is_integer)
              ∙ stored-order (integer_value low_token) (integer_value high_token) (is_beyond (integer_value low_token)) (is_beyond (integer_value high_token))

          -- The stream is stored, and the places are after its tokens.
          pub sofar_step : {b c : Bool} {v w : ℤ} → b ≡ is_err l → v ≡ result_unwrap_or l (pos 0) → c ≡ is_err h → w ≡ result_unwrap_or h (pos 0)
              → {new_names new_lengths : List ℕ} {new_lows new_highs : List ℤ} {new_faulty fault : Bool} → new_names ≡ sets tables.names (count * 8) name_token → new_lengths ≡ set tables.lengths count (length name_token)
              → new_lows ≡ set tables.lows count (held v) → new_highs ≡ set tables.highs count (held w) → new_faulty ≡ faulty || fault
              → fault ≡ b || c || lt_z (held w) (held v)
              → SoFar names lows highs name.end low.end high.end (count + 1) new_faulty (stream_tables new_names new_lengths new_lows new_highs)
          sofar_step {b = lowest_beyond} {c = highest_beyond} {v = lowest} {w = highest} low_far low_value high_far high_value {new_lows = new_lows} {new_highs = new_highs} en ek el eh ef er =
              let low_is_integer = low_integer low_far low_value in
              let high_is_integer = high_integer high_far high_value in
              let b = k.before in
              let e = ap length (token-tokens name_found a_name) in
              let few = k.few in
              let number = k.number in
              let below : length b < 8 = omega arith in
              let short = name-fits name_token is_aname in
              let more = length-append b (stream ∷ []) in
              record {
                before = b ++ (stream ∷ []);
                same =
                    from-tokens (name_token ∷ later_names) (low_token ∷ later_lows) (high_token ∷ later_highs) (token-tokens name_found a_name) (integer-tokens low_found low_is) (integer-tokens high_found high_is) (streams-more name_token low_token high_token later_names later_lows later_highs is_aname low_is high_is)
                    ∙ then_more (streams_from later_names later_lows later_highs) b stream;
                number = omega arith;
                fault = ef ∙ ap₂ (λ x y. x || y) k.fault (er ∙ range-fault low_is_integer high_is_integer ∙ sym (or-false (is_range_faulty stream))) ∙ sym (any_of-append is_range_faulty b (stream ∷ []));
                stored =
                    ap₂ (λ x y. stream_tables x y new_lows new_highs) en ek
                    ∙ ap₂ (λ x y. stream_tables (sets tables.names (count * 8) name_token) (set tables.lengths count (length name_token)) x y) (el ∙ ap (set tables.lows count) (stored-value low_is_integer)) (eh ∙ ap (set tables.highs count) (stored-value high_is_integer))
                    ∙ ap₂ (λ t c. with_stream t c stream) k.stored number
                    ∙ tables_more b stream below k.room short;
                room = room-more b stream below k.room short;
                few = omega arith;
              }
