-- Where the gate is to be held: the end of a follower's place in the log.
use Rattle.std.specs.Prelude.{ℕ, Bool, true, false, Option, Some, None}
use Rattle.ls_base.specs.declared.place.Place.{Place}
use Rattle.ls_base.specs.declared.place.Place.TheVariants.{Wal, Rest}
use Rattle.wal_follow.specs.declared.following.Following.{Following}

-- where a place in the log ends
abbrev pub log_end_at : Option Place → Option ℕ
log_end_at (Some (Wal a b end s0 s1)) = Some end
log_end_at (Some (Rest sum)) = None
log_end_at None = None

-- none where a pass emptied the log at the place
abbrev pub log_end_of : Following → Bool → Option ℕ
log_end_of f true = None
log_end_of f false = log_end_at f.place
