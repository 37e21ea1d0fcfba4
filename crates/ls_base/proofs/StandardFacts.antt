-- Small instances worked out by hand, so that a wrong definition doesn't check. Pages are of 512 bytes, each
-- filled with one byte.
use Rattle.std.proofs.Common.{◌≡◌, ℕ, ◌^◌, List, [], ◌∷◌, length, replicate, Some, None, refl, ◌∙◌}
use Rattle.std.specs.Prelude.{codes}
use Rattle.std.specs.Ordering.{nat_cmp}
use Rattle.std.specs.Cmp.{nat_cmp_total}
use Rattle.std.specs.FinMap.{FinMap, get, insert, empty, get-empty, get-insert}
use Rattle.ls_base.specs.declared.entry.Entry.{Entry}
use Rattle.ls_base.specs.declared.place.Place.{Place}
use Rattle.ls_base.specs.declared.place.Place.TheVariants.{Wal, Rest}
use Rattle.ls_base.specs.Change.{Change, page_after, apply}
use Rattle.ls_base.specs.History.{History, state_at}
use Rattle.ls_base.specs.PageSize.{lock_page}
use Rattle.ls_base.specs.State.{State, empty_state, state_bytes}
use Rattle.ls_base.specs.SyncLog.{SyncLog, recorded_state}
use Rattle.ls_base.specs.Txid.{hex_digits, txid_of}

pub page : ℕ → List ℕ
page byte = replicate 512 byte

pub two_pages : State
two_pages = record { page_size = Some 512; pages = page 17 ∷ page 34 ∷ [] }

pub numbered : FinMap nat_cmp (List ℕ)
numbered = insert (insert empty 1 (page 17)) 2 (page 34)

pub first_two : Change
first_two = record { page_size = 512; commit = 2; pages = numbered }

first_is : get numbered 1 ≡ Some (page 17)
unfolding numbered
first_is = get-insert nat_cmp_total (insert empty 1 (page 17)) 2 (page 34) 1
    ∙ get-insert nat_cmp_total empty 1 (page 17) 1

second_is : get numbered 2 ≡ Some (page 34)
unfolding numbered
second_is = get-insert nat_cmp_total (insert empty 1 (page 17)) 2 (page 34) 2

-- a change of two pages makes a database of two pages of nothing
pub two_pages_made : apply empty_state first_two ≡ two_pages
unfolding first_two two_pages
two_pages_made = rw (first_is, second_is) refl

-- its file has 1024 bytes
pub two_pages_bytes : length (state_bytes two_pages) ≡ 1024
unfolding two_pages page
two_pages_bytes = refl

-- a change of page 2 alone leaves page 1
pub only_second : FinMap nat_cmp (List ℕ)
only_second = insert empty 2 (page 51)

pub second_alone : Change
second_alone = record { page_size = 512; commit = 2; pages = only_second }

first_lacks : get only_second 1 ≡ None
unfolding only_second
first_lacks = get-insert nat_cmp_total empty 2 (page 51) 1 ∙ get-empty nat_cmp 1

pub first_page_stays : page_after two_pages second_alone 1 ≡ Some (page 17)
unfolding second_alone two_pages
first_page_stays = rw (first_lacks) refl

-- the page at byte 2^30, by the table of page sizes: 1073741824 bytes are 2097152 pages of 512 and 16384 of 65536
pub lock_pages : (lock_page 512 ≡ 2097153) × (lock_page 4096 ≡ 262145) × (lock_page 65536 ≡ 16385)
lock_pages = (refl, refl, refl)

-- the lock page is zeros, whatever the change and the state have; the pages beside it are theirs
pub at_lock_page : FinMap nat_cmp (List ℕ)
at_lock_page = insert empty 2097153 (page 17)

pub past_lock_page : Change
past_lock_page = record { page_size = 512; commit = 2097154; pages = at_lock_page }

pub lock_page_is_zeros : page_after two_pages past_lock_page 2097153 ≡ Some (page 0)
unfolding past_lock_page page
lock_page_is_zeros = refl

page_before_lacks : get at_lock_page 2097152 ≡ None
unfolding at_lock_page
page_before_lacks = get-insert nat_cmp_total empty 2097153 (page 17) 2097152 ∙ get-empty nat_cmp 2097152

pub page_before_is_missing : page_after two_pages past_lock_page 2097152 ≡ None
unfolding past_lock_page two_pages
page_before_is_missing = rw (page_before_lacks) refl

-- of two entries at one place the first counts, and places differ by each of their numbers
pub place : ℕ → Place
place end = Wal 1 2 end 3 4

-- the two pages at a place, and after them one page there
pub two_at : Place → Entry
two_at where_it_is = record { size = 512; place = where_it_is; pages = page 17 ∷ page 34 ∷ [] }

pub one_at : Place → Entry
one_at where_it_is = record { size = 512; place = where_it_is; pages = page 51 ∷ [] }

pub history : History
history = two_at (place 1104) ∷ one_at (Rest (2 ^ 63)) ∷ one_at (place 1104) ∷ []

pub first_entry_counts : state_at history (place 1104) ≡ Some two_pages
unfolding history place two_at one_at two_pages
first_entry_counts = refl

pub other_place_is_none : state_at history (place 1640) ≡ None
unfolding history place two_at one_at
other_place_is_none = refl

-- transaction 0 is nothing, and the first line is that of transaction 1
pub sync_log : SyncLog
sync_log = record { place = place 1104; moment = 1700000000000 } ∷ []

pub recorded : (recorded_state history sync_log 0 ≡ Some empty_state)
    × (recorded_state history sync_log 1 ≡ Some two_pages) × (recorded_state history sync_log 2 ≡ None)
unfolding sync_log history place two_at one_at two_pages
recorded = (refl, refl, refl)

-- texts of transactions
pub texts : (hex_digits 171 ≡ codes "00000000000000ab") × (txid_of (codes "fF") ≡ Some 255)
    × (txid_of (codes "0") ≡ None) × (txid_of (codes "00000000000000001") ≡ None) × (txid_of (codes "+1") ≡ None)
unfolding hex_digits txid_of
texts = (refl, refl, refl, refl, refl)
