-- The small steps of `next`.
use Rattle.std.specs.Prelude.{◌≡◌, ℕ, ◌==◌, ◌&&◌, if◌then◌else◌, nat_le, Bool, true, false, Option, Some, None, Result}
use Rattle.std.specs.Prelude.{Ok, Err}
use Rattle.ls_base.specs.declared.mark.Mark.{Mark}
use Rattle.ls_base.specs.declared.place.Place.{Place}
use Rattle.ls_base.specs.declared.place.Place.TheVariants.{Wal, Rest}
use Rattle.ls_base.specs.Place.{is_same_place}
use Rattle.wal_frames.specs.declared.header.WalHeader.{WalHeader}
use Rattle.wal_follow.specs.declared.answer.Next.{Next}
use Rattle.wal_follow.specs.declared.answer.Next.TheVariants.{Piece, Lost}
use Rattle.wal_follow.specs.declared.answer.Wanted.{Wanted}
use Rattle.wal_follow.specs.declared.answer.Wanted.TheVariants.{All, Listed}
use Rattle.wal_follow.specs.declared.fault.FollowFault.{FollowFault}
use Rattle.wal_follow.specs.declared.fault.FollowFault.TheVariants.{Header, SizesDiffer, WalTooLong, TooLarge}
use Rattle.wal_follow.specs.declared.fault.FollowFault.TheVariants.{GateBroken, Live, Memory}

-- The offset behind which the frames of a piece from a place on stand: its end in the log, or 0 where a pass emptied
-- the
-- log there.
abbrev pub behind : Bool → Option Place → Option ℕ
behind passed (Some (Wal a b end s0 s1)) = Some (if passed then 0 else end)
behind passed (Some (Rest sum)) = None
behind passed None = None

-- the mark of a place in the log with so many pages
abbrev pub mark_at : Option Place → Option ℕ → Option Mark
mark_at (Some (Wal a b end s0 s1)) (Some pages) =
    Some (record { salt1 = a; salt2 = b; end = end; s0 = s0; s1 = s1; commit = pages })
mark_at (Some (Wal a b end s0 s1)) None = None
mark_at (Some (Rest sum)) pages = None
mark_at None pages = None

-- the mark of a place that `stored` recorded and at which no pass emptied the log since
abbrev pub recorded_mark : Bool → Bool → Option Place → Option ℕ → Option Mark
recorded_mark true false place pages = mark_at place pages
recorded_mark true true place pages = None
recorded_mark false passed place pages = None

-- a mark at which a log of this header and length can be read on
abbrev pub kept_mark : Option Mark → WalHeader → ℕ → Option Mark
kept_mark None head length = None
kept_mark (Some mark) head length =
    if mark.salt1 == head.salt1 && mark.salt2 == head.salt2 && nat_le mark.end length then Some mark else None

-- whether a database file of this place is the one at the follower's place
abbrev pub is_same_rest : Bool → Option Place → Place → Bool
is_same_rest passed None rest = false
is_same_rest passed (Some (Rest sum)) rest = is_same_place (Rest sum) rest
is_same_rest passed (Some (Wal a b end s0 s1)) rest = passed

-- what was found, a piece or the whole
abbrev pub next_of : ℕ → Place → ℕ → Wanted → Next
next_of size place commit (Listed numbers) =
    Piece (record { size = size; place = place; commit = commit; wanted = Listed numbers })
next_of size place commit All = Lost (record { size = size; place = place; commit = commit; wanted = All })

-- the answers that there are where the log has a commit and the database file has this page size
abbrev pub IsMarkAnswer : ℕ → Result Next FollowFault → Type 0
IsMarkAnswer size (Ok value) = Unit {0}
IsMarkAnswer size (Err (Header fault)) = ⊥
IsMarkAnswer size (Err (SizesDiffer db wal)) = db ≡ size
IsMarkAnswer size (Err (WalTooLong n)) = ⊥
IsMarkAnswer size (Err (TooLarge n)) = Unit {0}
IsMarkAnswer size (Err (GateBroken broken)) = ⊥
IsMarkAnswer size (Err (Live fault)) = ⊥
IsMarkAnswer size (Err Memory) = Unit {0}

-- the answers that there are where it has none
abbrev pub IsRestAnswer : Result Next FollowFault → Type 0
IsRestAnswer (Ok value) = Unit {0}
IsRestAnswer (Err (Header fault)) = ⊥
IsRestAnswer (Err (SizesDiffer db wal)) = ⊥
IsRestAnswer (Err (WalTooLong n)) = ⊥
IsRestAnswer (Err (TooLarge n)) = Unit {0}
IsRestAnswer (Err (GateBroken broken)) = ⊥
IsRestAnswer (Err (Live fault)) = Unit {0}
IsRestAnswer (Err Memory) = Unit {0}

-- the answers that there are for the number of pages
abbrev pub IsCountAnswer : Result ℕ FollowFault → Type 0
IsCountAnswer (Ok value) = Unit {0}
IsCountAnswer (Err (Header fault)) = ⊥
IsCountAnswer (Err (SizesDiffer db wal)) = ⊥
IsCountAnswer (Err (WalTooLong n)) = ⊥
IsCountAnswer (Err (TooLarge n)) = Unit {0}
IsCountAnswer (Err (GateBroken broken)) = ⊥
IsCountAnswer (Err (Live fault)) = ⊥
IsCountAnswer (Err Memory) = ⊥
