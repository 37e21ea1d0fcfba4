-- A log that ceases to have a commit: it is a step, and the machine is sound after it.
use Rattle.std.proofs.Common.{◌≡◌, ◌≢◌, ℕ, ◌+◌, ◌-◌, ◌*◌, ◌/◌, ◌<◌, ◌≤◌, Bool, true, false, List, [], ◌∷◌, ◌++◌}
use Rattle.std.proofs.Common.{length, take, drop, max, Option, Some, None, Ok, refl, sym, ap, subst, ◌∙◌, inl, inr, arith}
use Rattle.std.proofs.Common.{map}
use Rattle.std.specs.Prelude.{◌⊎◌, unwrap_or}
use Rattle.std.specs.List.{range_with_len}
use Rattle.std.proofs.lemmas.Bool.{cases_eq, eq-eqb}
use Rattle.std.proofs.lemmas.List.{length-take}
use Rattle.std.proofs.lemmas.Option.{same_Some}
use Rattle.ls_base.specs.declared.entry.Entry.{Entry}
use Rattle.ls_base.specs.declared.mark.Mark.{Mark}
use Rattle.ls_base.specs.History.{History, state_of}
use Rattle.ls_base.specs.PageSize.{lock_page}
use Rattle.ls_base.specs.State.{State}
use Rattle.wal_frames.specs.declared.header.WalHeader.{WalHeader}
use Rattle.wal_frames.specs.WalFormat.{HasSums, read_header, wal_header_bytes}
use Rattle.wal_frames.specs.ValidPrefix.{frames_under, valid_frames}
use Rattle.wal_frames.specs.Marks.{IsMark, last_mark_of, bytes_to}
use Rattle.wal_frames.specs.View.{frames_to, frames_page, file_page, file_pages, page_at_rest, view_at_rest}
use Rattle.wal_frames.specs.View.{unless_locked}
use Rattle.wal_frames.proofs.CutLemmas.{quotient}
use Rattle.wal_frames.proofs.LogLemmas.{last_is_mark, ends_within}
use Rattle.wal_frames.proofs.MarkLemmas.{valid_is}
use Rattle.wal_frames.proofs.ViewLemmas.{frames_to_cut}
use Rattle.checkpointer.proofs.RestView.{some_page, some_size}
use Rattle.checkpointer.proofs.ViewOfPair.{same_pages}
use Rattle.live_gate.specs.Legal.{IsRecorded, IsLegal, last_state}
use Rattle.live_gate.specs.Moves.{EmptiesLog, Restarts}
use Rattle.live_gate.proofs.MoveLemmas.{restart_step}
use Rattle.sim_writer.specs.declared.machine.Machine.{Machine}
use Rattle.sim_writer.specs.CommitFrames.{SaysSize}
use Rattle.sim_writer.specs.Commits.{counted}
use Rattle.sim_writer.specs.Emptying.{IsNextHead, emptied, Renews, BeginsAnew, CutsLog}
use Rattle.sim_writer.specs.Sound.{IsFileEntry, IsSound, database_of, log_of, page_behind, state_behind}
use Rattle.sim_writer.specs.Twins.{HasTwin, HasNoTwin}
use Rattle.sim_writer.proofs.RestLemmas as rest
use Rattle.sim_writer.proofs.TwinLemmas.{counted_rose, counted_calm}

-- the last entry of a history
pub record EndsWith (h : History) (s : State) : Type 0 where
  pub earlier : History
  pub last : Entry
  pub split : h ≡ earlier ++ last ∷ []
  pub is : state_of last ≡ s

pub ends_with : (h : History) (s : State) → last_state None h ≡ Some s → EndsWith h s
ends_with [] s is = absurd cc
ends_with (e ∷ h) s is = by e h is
  where
    by : (e : Entry) (h : History) → last_state (Some (state_of e)) h ≡ Some s → EndsWith (e ∷ h) s
    by e [] is = record { earlier = []; last = e; split = refl; is = same_Some (state_of e) s is }
    by e (x ∷ h) is =
        let rest = by x h is in
        record {
          earlier = e ∷ rest.earlier;
          last = rest.last;
          split = ap (λ (t : History). e ∷ t) rest.split;
          is = rest.is;
        }

-- ---- the last mark of the log

module _ (m : Machine) (s : IsSound m) (mark : Mark) (last : last_mark_of m.committed ≡ Some mark) where
  abbrev h : WalHeader
  h = m.head

  abbrev frames : List (List ℕ)
  frames = valid_frames m.committed

  pub some : m.committed ≢ []
  some none = rest.no_last m.committed none mark last

  pub accepted : read_header m.committed ≡ Ok m.head
  accepted = (s.stands some).taken.accepted

  pub is_mark : IsMark m.committed mark
  is_mark = last_is_mark m.committed mark last

  whole : take mark.end m.committed ≡ m.committed
  whole = by s.legal.recorded
    where
      by : IsRecorded m.history m.committed m.file m.copied → take mark.end m.committed ≡ m.committed
      by (inl has) = sym (ap (λ (o : Option Mark). bytes_to o m.committed) last) ∙ has.whole
      by (inr rest) = absurd (some rest.none)

  pub end_is : mark.end ≡ length m.committed
  end_is = omega (
    arith,
    ends_within m.committed mark is_mark,
    ap length whole,
    length-take mark.end m.committed,
  )

  pub all_frames_to : frames_to m.head (valid_frames m.committed) mark ≡ valid_frames m.committed
  all_frames_to =
      ap (λ (fs : List (List ℕ)). frames_to h fs mark) (valid_is m.committed h accepted)
      ∙ frames_to_cut m.committed h accepted mark is_mark ∙ ap (frames_under h) whole
      ∙ sym (valid_is m.committed h accepted)

  -- ---- the database file alone

  module _ (copied : m.copied ≡ mark.end) (long : length m.file ≡ mark.commit * m.head.size) where
    many : file_pages h.size m.file ≡ mark.commit
    many =
        let size = some_size m.committed h accepted mark is_mark in
        let times : (length m.file + (h.size - 1)) / h.size ≡ mark.commit = quotient (length m.file + (h.size - 1)) h.size
        mark.commit (h.size - 1) (omega (arith, long)) (omega (arith, size)) in
        ap (λ (n : ℕ). max 1 n) times ∙ omega (arith, some_page m.committed h accepted mark is_mark)

    page_same : (p : ℕ) → 1 ≤ p → p < 1 + mark.commit → page_at_rest h.size m.file p ≡ page_behind h m.file frames p
    page_same p from upto = elim (cases_eq p (lock_page h.size)) [
      | inl locked ↦ rw (eq-eqb p (lock_page h.size) locked) refl
      | inr other ↦
          ap (unless_locked h.size p) ((s.files.stands mark is_mark (sym copied)).page p from (omega (arith, upto)) other
          ∙ ap (λ (fs : List (List ℕ)). unwrap_or (frames_page p fs) (file_page h.size m.file p)) all_frames_to)
    ]

    pub view_is_current : ◌≡◌ {A = State} (view_at_rest m.head.size m.file)
        (state_behind m.head m.file (valid_frames m.committed) s.current.count)
    view_is_current =
        (λ i. record { page_size = Some h.size; pages = map (page_at_rest h.size m.file) (range_with_len 1 (many i)) })
        ∙ ap (λ (pages : List (List ℕ)). record { page_size = Some h.size; pages = pages })
        (same_pages (page_at_rest h.size m.file) (page_behind h m.file frames) 1 mark.commit page_same)
        ∙ ap (state_behind h m.file frames) (sym (s.counted mark last))

-- ---- the machine with the entry of the file

module _ (m : Machine) (s : IsSound m) (mark : Mark) (last : last_mark_of m.committed ≡ Some mark)
    (copied : m.copied ≡ mark.end) (long : length m.file ≡ mark.commit * m.head.size)
    (head : WalHeader) (entry : Entry) (f : IsFileEntry head.size m.file entry) (tail : List ℕ) (headed : Bool)
    (chances : ℕ) (twins : (HasNoTwin m.history entry × (chances ≡ m.chances))
    ⊎ (HasTwin m.history entry × (chances ≡ counted m.chances)))
    (later : m.chances ≤ chances) (size : head.size ≡ m.head.size) (sums : HasSums head)
    (front : headed ≡ true → take 32 tail ≡ wal_header_bytes head) where
  abbrev t : Machine
  t = emptied head tail headed entry chances m

  pub state_is : state_of entry ≡ state_behind m.head m.file (valid_frames m.committed) s.current.count
  state_is = f.state ∙ ap (λ (k : ℕ). view_at_rest k m.file) size ∙ view_is_current m s mark last copied long

  pub parts : EndsWith m.history (state_behind m.head m.file (valid_frames m.committed) s.current.count)
  parts = ends_with m.history _ s.current.is

  says : SaysSize head.size (file_page head.size m.file 1)
  says = subst (λ (k : ℕ). SaysSize k (file_page k m.file 1)) (sym size) s.files.says

  pub empties : (held : Option ℕ) → EmptiesLog (database_of m) (record (database_of t) { held = held })
  empties held = record {
    earlier = parts.earlier;
    last = parts.last;
    rest = entry;
    was = parts.split;
    history = refl;
    same = state_is ∙ sym parts.is;
    at_rest = rest.at_rest head m.file entry f says m.history;
    stopped = refl;
    chances = later;
    twins = record {
      rose = counted_rose m.history entry m.chances chances twins;
      calm = counted_calm m.history entry m.chances chances twins;
    };
  }

  pub emptied_sound : (held : Option ℕ) → IsLegal (record (database_of t) { held = held })
      → IsSound (record t { held = held })
  emptied_sound held legal = rest.resting_sound head m.file entry f says m.history tail headed held m.refuses m.stopped
      chances sums front legal

  -- ---- where the gate isn't held

  module _ (free : m.held ≡ None) (n : Machine) (is : n ≡ t) where
    restarts : Restarts (database_of m) (database_of t)
    restarts = record { empties = empties m.held; was_free = free; is_free = free }

    pub renewed_sound : IsSound n
    renewed_sound = subst IsSound (sym is) (emptied_sound m.held ((restart_step _ _ restarts).legal s.legal))

    module _ (salt2 : ℕ) (next : IsNextHead salt2 m.head head) where
      renews : Renews salt2 m t
      renews = record { restarts = restarts; head = next; file = refl; refuses = refl }

      pub begins_anew : tail ≡ wal_header_bytes head ++ drop 32 (log_of m) → headed ≡ true → BeginsAnew salt2 m n
      begins_anew bytes has = subst (λ (x : Machine). BeginsAnew salt2 m x) (sym is)
          (record { renews = renews; log = bytes; headed = has })

      pub cuts_log : salt2 ≡ m.head.salt2 → tail ≡ [] → headed ≡ false → CutsLog m n
      cuts_log same bytes lacks = subst (λ (x : Machine). CutsLog m x) (sym is) (record {
        renews = subst (λ (k : ℕ). Renews k m t) same renews;
        log = bytes;
        headed = lacks;
      })
