-- `refusals::names_refused` meets its contract: no name before the loop's place is reserved or stands again, so that the rest decides.
use Prim.Native.Nat.{ℕ}
use mathlib.Core.Path.{◌≡◌, refl, sym, ap, ◌∙◌}
use mathlib.Core.List.{List}
use native.Mathlib.Omega.{arith}
use lib.ListN.{drop}
use Rattle.text.specs.Bytes.{tokens}
use Rattle.text.specs.Token.{is_one_of}
use Rattle.scan.specs.Place.{between}
use Rattle.scan.proofs.Tokens.{token-within, token-empty, token-after, token-tokens}
use Rattle.refusals.proofs.Lines.{between-all}
use Rattle.refusals.proofs.Names.{names-none, names_reserved, names_twice, names-later}
use Rattle.refusals.proofs.names_refused.Goals as goal
use Rattle.refusals.proofs.names_refused.Goals.{then-is_reserved-via-then-is_reserved, then-is_reserved-via-else-is_reserved+then-stands_in}

pub loop-at-init : goal.loop-at-init
loop-at-init c = (omega arith, refl)

pub returns-then-start-end : goal.returns-then-start-end
returns-then-start-end c =
    let line_of : List ℕ = c.args.line.now in
    let name_of : List ℕ = between (line_of) c.next_token-start.result.start c.next_token-start.result.end in
    let later_of : List (List ℕ) = tokens (drop c.next_token-start.result.end (line_of)) in
    names-none (name_of) (later_of) (token-empty c.next_token-start.ensures c.if-start-end.true) ∙ sym c.loop-at.invariant.1

pub slice_bounds-name-count : goal.slice_bounds-name-count
slice_bounds-name-count c = let w = token-within c.next_token-start.ensures in let a = w.0 in let b = w.1 in omega arith

pub slice_bounds-name-start : goal.slice_bounds-name-start
slice_bounds-name-start c = let w = token-within c.next_token-start.ensures in let a = w.0 in let b = w.1 in omega arith

pub slice_bounds-name-end : goal.slice_bounds-name-end
slice_bounds-name-end c = let w = token-within c.next_token-start.ensures in let a = w.0 in let b = w.1 in omega arith

pub slice_bounds-stands_in-count : goal.slice_bounds-stands_in-count
slice_bounds-stands_in-count c = let w = token-within c.next_token-start.ensures in let a = w.0 in let b = w.1 in omega arith

pub slice_bounds-stands_in-start : goal.slice_bounds-stands_in-start
slice_bounds-stands_in-start c = let w = token-within c.next_token-start.ensures in let a = w.0 in let b = w.1 in omega arith

pub slice_bounds-stands_in-end : goal.slice_bounds-stands_in-end
slice_bounds-stands_in-end c = let w = token-within c.next_token-start.ensures in let a = w.0 in let b = w.1 in omega arith

pub loop-at-smaller : goal.loop-at-smaller
loop-at-smaller c =
    let token = c in
    let a = token-after token.next_token-start.ensures c.if-start-end.false in
    let w = token-within token.next_token-start.ensures in
    let b = w.1 in
    omega arith

pub loop-at-preserved : goal.loop-at-preserved
loop-at-preserved c =
    let line_of : List ℕ = c.args.line.now in
    let name_of : List ℕ = between (line_of) c.next_token-start.result.start c.next_token-start.result.end in
    let later_of : List (List ℕ) = tokens (drop c.next_token-start.result.end (line_of)) in
    let stands-again : is_one_of (later_of) (name_of) ≡ c.stands_in.result = (let token = c in
    sym (c.stands_in.ensures ∙ ap (λ l. is_one_of (tokens l) name_of) (between-all line_of token.next_token-start.result.end (token-within token.next_token-start.ensures).1))) in
    let token = c in (
      (token-within token.next_token-start.ensures).1,
      token.loop-at.invariant.1 ∙ names-later name_of later_of (token-tokens token.next_token-start.ensures c.if-start-end.false) (sym c.is_reserved.ensures ∙ c.if-is_reserved.false) (stands-again ∙ c.if-stands_in.false),
    )

pub returns-then-is_reserved : goal.returns-then-is_reserved
returns-then-is_reserved c =
    let line_of : List ℕ = c.args.line.now in
    let name_of : List ℕ = between line_of c.next_token-start.result.start c.next_token-start.result.end in
    let later_of : List (List ℕ) = tokens (drop c.next_token-start.result.end line_of) in
    let first = token-tokens c.next_token-start.ensures c.if-start-end.false in
    elim c.then-is_reserved.branch [
      | then-is_reserved-via-then-is_reserved w ↦ names_reserved name_of later_of first (sym c.is_reserved.ensures ∙ w.if-is_reserved.true) ∙ sym c.loop-at.invariant.1
      | then-is_reserved-via-else-is_reserved+then-stands_in w ↦
          let again : is_one_of later_of name_of ≡ w.stands_in.result = sym (w.stands_in.ensures ∙ ap (λ l. is_one_of (tokens l) name_of) (between-all line_of c.next_token-start.result.end (token-within c.next_token-start.ensures).1)) in
          names_twice name_of later_of first (again ∙ w.if-stands_in.true) ∙ sym c.loop-at.invariant.1
    ]
