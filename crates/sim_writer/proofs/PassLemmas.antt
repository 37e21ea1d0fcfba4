-- A pass: it takes place, and the machine is sound after it.
use Rattle.std.proofs.Common.{◌≡◌, ◌≢◌, ℕ, ◌+◌, ◌*◌, ◌≤◌, true, false, take, List, [], ◌∷◌, ◌++◌, length, Some, refl, sym}
use Rattle.std.proofs.Common.{ap, subst, ◌∙◌, append_assoc, length-append, arith}
use Rattle.std.specs.Prelude.{◌⊎◌, ◌↔◌, IsTrue, Bool}
use Rattle.std.specs.List.{slice_get}
use Rattle.std.proofs.lemmas.Option.{same_Some}
use Rattle.ls_base.specs.declared.entry.Entry.{Entry}
use Rattle.ls_base.specs.declared.mark.Mark.{Mark}
use Rattle.ls_base.specs.declared.place.Place.{Place}
use Rattle.ls_base.specs.History.{History}
use Rattle.wal_frames.specs.declared.header.WalHeader.{WalHeader}
use Rattle.wal_frames.specs.WalFormat.{wal_header_bytes}
use Rattle.wal_frames.specs.ValidPrefix.{valid_frames}
use Rattle.wal_frames.specs.Marks.{IsMark, last_mark_of, place_of}
use Rattle.wal_frames.proofs.LogLemmas.{last_is_mark}
use Rattle.live_gate.specs.LiveCalls.{TakesPlace}
use Rattle.live_gate.specs.Moves.{PassesAll}
use Rattle.live_gate.proofs.CopyLemmas.{copy_step}
use Rattle.live_gate.proofs.MoveLemmas.{pass_legal}
use Rattle.sim_writer.specs.declared.machine.Machine.{Machine}
use Rattle.sim_writer.specs.Commits.{counted}
use Rattle.sim_writer.specs.Copying.{CopiesTo}
use Rattle.sim_writer.specs.Emptying.{IsNextHead, emptied}
use Rattle.sim_writer.specs.OwnPass.{CanPass, TakesPass}
use Rattle.sim_writer.specs.Sound.{IsFileEntry, IsSound, database_of, state_behind}
use Rattle.sim_writer.specs.Twins.{HasTwin, HasNoTwin}
use Rattle.sim_writer.proofs.CopyLemmas as copy
use Rattle.sim_writer.proofs.EmptyLemmas as empty
use Rattle.sim_writer.proofs.EntryLemmas.{last_place}
use Rattle.sim_writer.proofs.InFileLemmas.{ends_behind_header}
use Rattle.sim_writer.proofs.ListLemmas.{get-end}
use Rattle.sim_writer.proofs.MayEmptyLemmas.{has_last, marked_some}

-- ---- where it may be

pub pass_some : (m : Machine) (place : Place) → CanPass place m → length m.committed ≡ 0 → ⊥
pass_some m place can = marked_some m.committed can.mark can.last

module _ (m : Machine) (s : IsSound m) (place : Place) where
  pub can_pass_end : (can : CanPass place m) → can.mark.end ≡ length m.committed
  can_pass_end can = empty.end_is m s can.mark can.last

  module _ (some : m.committed ≢ []) (held : m.held ≡ Some (length m.committed)) (at : Bool)
      (is : (entry : Entry) (at_end : ℕ) → length m.history ≡ at_end + 1 → slice_get m.history at_end ≡ Some entry
      → IsTrue at ↔ (entry.place ≡ place)) where
    last : (mark : Mark) × (last_mark_of m.committed ≡ Some mark)
    last = has_last m s some

    ends : empty.EndsWith m.history (state_behind m.head m.file (valid_frames m.committed) s.current.count)
    ends = empty.ends_with m.history _ s.current.is

    many : length m.history ≡ length ends.earlier + 1
    many = ap length ends.split ∙ omega (arith, length-append ends.earlier (ends.last ∷ []))

    found : slice_get m.history (length ends.earlier) ≡ Some ends.last
    found = ap (λ (h : History). slice_get h (length ends.earlier)) ends.split ∙ get-end ends.earlier ends.last

    own : ends.last.place ≡ place_of last.0
    own = last_place m s last.0 ends.last (length ends.earlier) last.1 many found

    pub may_pass : IsTrue at → (can : CanPass place m) × (can.mark.end ≡ length m.committed)
    may_pass holds =
        let end = empty.end_is m s last.0 last.1 in (
          record {
            mark = last.0;
            last = last.1;
            at_place = sym own ∙ (is ends.last (length ends.earlier) many found).0 holds;
            held = held ∙ ap (λ (n : ℕ). Some n) (sym end);
          },
          end,
        )

    pub must_pass : CanPass place m → IsTrue at
    must_pass can =
        let same = same_Some can.mark last.0 (sym can.last ∙ last.1) in
        (is ends.last (length ends.earlier) many found).1 (own ∙ ap place_of (sym same) ∙ can.at_place)

-- ---- what it does

module _ (m : Machine) (s : IsSound m) (place : Place) (can : CanPass place m) (end : ℕ) (ends : can.mark.end ≡ end)
    (file : List ℕ) (c : CopiesTo end m.file m.committed file) (head : WalHeader)
    (next : IsNextHead m.head.salt2 m.head head) (entry : Entry) (f : IsFileEntry head.size file entry)
    (tail : List ℕ) (none : tail ≡ []) (chances : ℕ)
    (twins : (HasNoTwin m.history entry × (chances ≡ m.chances))
    ⊎ (HasTwin m.history entry × (chances ≡ counted m.chances))) (later : m.chances ≤ chances) where
  abbrev mark : Mark
  mark = can.mark

  is_mark : IsMark m.committed mark
  is_mark = last_is_mark m.committed mark can.last

  behind : 32 ≤ mark.end
  behind = ends_behind_header m.head m.committed (empty.accepted m s mark can.last) mark is_mark

  past : m.copied ≤ mark.end
  past = ((s.legal.is_held mark.end can.held).at_mark (λ zeros. absurd (omega (arith, behind, zeros)))).1

  upto : (held : ℕ) → m.held ≡ Some held → (held ≢ 0) × (mark.end ≤ held)
  upto held is =
      let same = same_Some mark.end held (sym can.held ∙ is) in
      (λ zeros. absurd (omega (arith, behind, same, zeros)), omega (arith, same))

  to_mark : CopiesTo mark.end m.file m.committed file
  to_mark = subst (λ (n : ℕ). CopiesTo n m.file m.committed file) (sym ends) c

  -- the machine of which all is copied
  abbrev mid : Machine
  mid = record m { file = file; copied = mark.end }

  sound_mid : IsSound mid
  sound_mid = copy.copied_sound m s mark is_mark past upto file to_mark

  long : length file ≡ mark.commit * m.head.size
  long = (copy.is_copied m s mark is_mark past upto file to_mark).last can.last

  abbrev t : Machine
  t = record (emptied head tail false entry chances m) { file = file; held = Some 0 }

  lacks : false ≡ true → take 32 tail ≡ wal_header_bytes head
  lacks e = absurd cc

  passes_all : PassesAll (database_of mid) (database_of t)
  passes_all = record {
    empties = empty.empties mid sound_mid mark can.last refl long head entry f tail false chances twins later
        next.fields.is_size next.sums lacks (Some 0);
    held = refl;
  }

  pub passed_sound : IsSound t
  passed_sound = empty.emptied_sound mid sound_mid mark can.last refl long head entry f tail false chances twins later
      next.fields.is_size next.sums lacks (Some 0) (pass_legal _ _ passes_all sound_mid.legal)

  parts : empty.EndsWith m.history (state_behind m.head file (valid_frames m.committed) sound_mid.current.count)
  parts = empty.parts mid sound_mid mark can.last refl long head entry f tail false chances twins later
      next.fields.is_size next.sums lacks

  sized : length m.history ≡ length parts.earlier + 1
  sized = ap length parts.split ∙ omega (arith, length-append parts.earlier (parts.last ∷ []))

  stands : slice_get m.history (length parts.earlier) ≡ Some parts.last
  stands = ap (λ (h : History). slice_get h (length parts.earlier)) parts.split ∙ get-end parts.earlier parts.last

  takes : TakesPlace place (database_of m) (database_of t)
  takes = record {
    legal = λ is. pass_legal _ _ passes_all
        ((copy_step _ _ (copy.copies m s mark is_mark past upto file to_mark)).legal is);
    history = record { rest = entry ∷ []; is = refl };
    chances = later;
    was_held = (mark, can.at_place, can.held);
    emptied = refl;
    held = refl;
    ends = record {
      earlier = parts.earlier;
      entry = parts.last;
      rest = entry;
      split = ap (λ (h : History). h ++ entry ∷ []) parts.split
          ∙ append_assoc parts.earlier (parts.last ∷ []) (entry ∷ []);
      at_place = last_place m s mark parts.last (length parts.earlier) can.last sized stands ∙ can.at_place;
      same = empty.state_is mid sound_mid mark can.last refl long head entry f tail false chances twins later
          next.fields.is_size next.sums lacks ∙ sym parts.is;
    };
  }

  pub takes_pass : TakesPass place m t
  takes_pass = record {
    takes = takes;
    twins = record { rose = passes_all.empties.twins.rose; calm = passes_all.empties.twins.calm };
    mark = mark;
    last = can.last;
    copies = copy.is_copied m s mark is_mark past upto file to_mark;
    head = next;
    log = none;
    headed = refl;
    refuses = refl;
    stopped = refl;
  }
