-- What is left of tables that are cleared: the entries before `used` and the flags before `states`.
use Rattle.std.specs.Prelude.{◌≡◌, List, ℕ, length, replicate}
use Rattle.basics.specs.Clearing.{ClearedFrom}

pub record AreCleared (used states : ℕ) (entries flags live class next heads links envelopes entries' flags' live' class' next' heads' links' envelopes' : List ℕ) : Type 0 where
  pub entries_beyond : ClearedFrom entries entries' used
  pub flags_beyond : ClearedFrom flags flags' states
  pub live_zero : live' ≡ replicate (length live) 0
  pub class_zero : class' ≡ replicate (length class) 0
  pub next_zero : next' ≡ replicate (length next) 0
  pub heads_zero : heads' ≡ replicate (length heads) 0
  pub links_zero : links' ≡ replicate (length links) 0
  pub envelopes_zero : envelopes' ≡ replicate (length envelopes) 0
