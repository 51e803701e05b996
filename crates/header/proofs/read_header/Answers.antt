-- `header::read_header` meets its contract: the names are few, and the tables are zero before the lines are read.
use Prim.Native.Nat.{ℕ}
use mathlib.Core.Path.{refl, subst}
use native.Mathlib.Omega.{arith}
use Rattle.std.proofs.Common.{rules}
use Rattle.text.specs.Bytes.{tokens}
use Rattle.header.specs.Streams.{KindsOutcome}
use Rattle.header.proofs.read_header.Goals as goal

pub returns-then-token_count-gt8 : goal.returns-then-token_count-gt8
returns-then-token_count-gt8 c =
    record {
      many = λ h. c.no_header.ensures;
      streams = λ h. absurd (omega (arith, h, c.if-token_count-gt8.true, c.token_count.ensures));
      kinds = λ h. absurd (omega (arith, h, c.if-token_count-gt8.true, c.token_count.ensures));
    }

pub read_streams-streams-requires : goal.read_streams-streams-requires
read_streams-streams-requires c = record { names_line_len_bound = omega (arith, c.if-token_count-gt8.false, c.token_count.ensures); highs_value = refl }

pub read_kinds-said-requires : goal.read_kinds-said-requires
read_kinds-said-requires c = (omega arith, refl)

pub returns : goal.returns
returns c =
    record {
      many = λ h. absurd (omega (arith, h, c.if-token_count-gt8.false, c.token_count.ensures));
      streams = λ h. c.read_streams-streams.ensures;
      kinds = λ h. subst (λ (n : ℕ). KindsOutcome (tokens c.args.kinds_line.now) n c.read_kinds-said.result c.read_kinds-said.new.stream_kinds) (search rules) c.read_kinds-said.ensures;
    }
