-- The machine after a commit.
use Rattle.std.proofs.Common.{◌≡◌, ℕ, ◌+◌, List, [], ◌∷◌, ◌++◌, length, drop, Some}
use Rattle.std.proofs.Common.{Option, None}
use Rattle.std.proofs.Common.{length-append, refl, sym, ap, subst, ◌∙◌, arith}
use Rattle.std.specs.List.{concat, slice_get}
use Rattle.std.specs.FinMap.{keys}
use Rattle.ls_base.specs.declared.mark.Mark.{Mark}
use Rattle.std.proofs.lemmas.Option.{slice_get_within}
use Rattle.ls_base.specs.History.{History}
use Rattle.ls_base.specs.State.{State}
use Rattle.ls_sums.specs.declared.wal_sum.WalSum.{WalSum}
use Rattle.wal_frames.specs.declared.header.WalHeader.{WalHeader}
use Rattle.wal_frames.specs.WalFormat.{HasSums}
use Rattle.wal_frames.specs.ValidPrefix.{valid_frames}
use Rattle.wal_frames.specs.Marks.{marks_of, last_mark_of}
use Rattle.wal_frames.proofs.AcceptedLemmas.{accepts}
use Rattle.live_gate.specs.LiveRecord.{Database}
use Rattle.live_gate.specs.Legal.{all_frames, commit_mark, last_state}
use Rattle.live_gate.specs.Moves.{AddsCommit}
use Rattle.live_gate.proofs.MoveLemmas.{marks_grown, last_state-append, commit_step}
use Rattle.sim_writer.specs.declared.commit.Made.{Made}
use Rattle.sim_writer.specs.declared.machine.Machine.{Machine}
use Rattle.sim_writer.specs.CommitFrames.{PagesByNumber, IsCommit, commit_frames}
use Rattle.sim_writer.specs.Commits.{Makes, Puts, Commits, front_of}
use Rattle.sim_writer.specs.InFile.{FramesSay, HasFile}
use Rattle.sim_writer.specs.Sound.{IsSound, IsFileEntry, IsRestEntry, StandsAt, database_of, tail_of, state_behind}
use Rattle.sim_writer.proofs.InFileLemmas.{commit_says, file_grown}
use Rattle.sim_writer.proofs.CommitLemmas.{c, last_then, sp, stands_now, accepted_now, frames_now, whole_now, known_now}
use Rattle.sim_writer.proofs.CommitLemmas.{state_now, fits_now}
use Rattle.sim_writer.proofs.ListLemmas.{get-front}
use Rattle.sim_writer.proofs.TwinLemmas.{counted_rose, counted_calm}

same_database : (a b : Database) → a.history ≡ b.history → a.committed ≡ b.committed → a.file ≡ b.file
    → a.copied ≡ b.copied → a.held ≡ b.held → a.refuses ≡ b.refuses → a.stopped ≡ b.stopped
    → a.chances ≡ b.chances → a ≡ b
same_database a b history committed file copied held refuses stopped chances = λ i. record {
  history = history i;
  committed = committed i;
  file = file i;
  copied = copied i;
  held = held i;
  refuses = refuses i;
  stopped = stopped i;
  chances = chances i;
}

module _ (m : Machine) (s : IsSound m) (pages : PagesByNumber) (size : ℕ) (is : IsCommit m.head.size pages size)
    (made : Made) (mk : Makes m pages size made) (n : Machine) (p : Puts made m n) where
  -- the database after it
  abbrev after : Database
  after = record (database_of m) {
    history = m.history ++ made.entry ∷ [];
    committed = m.committed ++ made.bytes;
    chances = n.chances;
  }

  after_is : database_of n ≡ after
  after_is = same_database (database_of n) after p.history p.committed p.file p.copied p.held p.refuses p.stopped refl

  adds_then : AddsCommit (database_of m) after
  adds_then = record {
    h = m.head;
    c = c m s pages size is made mk;
    e = made.entry;
    accepted = accepted_now m s pages size is made mk;
    whole = whole_now m s pages size is made mk;
    front = record { rest = made.bytes; is = refl };
    frames = frames_now m s pages size is made mk;
    history = refl;
    fits = fits_now m s pages size is made mk;
    file = refl;
    copied = refl;
    held = refl;
    stopped = refl;
    chances = p.later;
    twins = record {
      rose = counted_rose m.history made.entry m.chances n.chances p.twins;
      calm = counted_calm m.history made.entry m.chances n.chances p.twins;
    };
  }

  adds_now : AddsCommit (database_of m) (database_of n)
  adds_now = subst (λ (d : Database). AddsCommit (database_of m) d) (sym after_is) adds_then

  bytes_front : made.bytes ≡ front_of m.head m.committed
      ++ concat (commit_frames m.head m.sums pages size (keys pages))
  bytes_front = mk.bytes ∙ ap
      (λ (b : List ℕ). b ++ concat (commit_frames m.head m.sums pages size (keys pages))) mk.is_front.is

  pub commits_done : Commits pages size m n
  commits_done = record {
    adds = adds_now;
    bytes = p.committed ∙ ap (λ (b : List ℕ). m.committed ++ b) bytes_front;
    tail = p.tail ∙ ap (λ (b : List ℕ). drop (length b) (tail_of m)) bytes_front;
    head = p.head;
    refuses = p.refuses;
  }

  -- the state behind the frames of the log
  state_then : last_state None n.history ≡ Some (state_behind n.head n.file (valid_frames n.committed) size)
  state_then =
      ap (last_state None) p.history ∙ last_state-append None m.history (made.entry ∷ [])
      ∙ ap (λ (x : State). Some x) (state_now m s pages size is made mk)
      ∙ ap (λ (b : List ℕ). Some (state_behind m.head m.file (valid_frames b) size)) (sym p.committed)
      ∙ ap (λ (x : WalHeader). Some (state_behind x m.file (valid_frames n.committed) size)) (sym p.head)
      ∙ ap (λ (b : List ℕ). Some (state_behind n.head b (valid_frames n.committed) size)) (sym p.file)

  same_mark : (a b : Mark) → ◌≡◌ {A = Option Mark} (Some a) (Some b) → a ≡ b
  same_mark a b e = cc

  counted_then : (mark : Mark) → last_mark_of n.committed ≡ Some mark → size ≡ mark.commit
  counted_then mark last = ap (λ (x : Mark). x.commit)
      (same_mark _ _ (sym (known_now m s pages size is made mk) ∙ ap last_mark_of (sym p.committed) ∙ last))

  one_more : (marks : List Mark) (mark : Mark) → length (marks ++ mark ∷ []) ≡ length marks + 1
  one_more marks mark = omega (arith, length-append marks (mark ∷ []))

  marks_then : length (marks_of n.committed) ≡ length (marks_of m.committed) + 1
  marks_then =
      let grown = marks_grown (database_of m) (database_of n) adds_now in
      ap length grown ∙ one_more (marks_of m.committed)
      (commit_mark adds_now.h (valid_frames m.committed) adds_now.c)

  says_then : FramesSay m.head.size (all_frames (c m s pages size is made mk))
  says_then = subst (λ (fs : List (List ℕ)). FramesSay m.head.size fs) (sp m s pages size is made mk).split
      (commit_says m.head pages size m.sums is mk.checked)

  files_then : HasFile m.head m.file (m.committed ++ made.bytes) m.copied
  files_then = file_grown m.head m.file m.committed made.bytes m.copied (all_frames (c m s pages size is made mk))
      (λ some. (s.stands some).taken.accepted) s.legal.is_copied (frames_now m s pages size is made mk)
      (accepted_now m s pages size is made mk) says_then s.files

  rests_then : n.copied ≡ 0 → IsRestEntry n.head.size n.file n.history n.before_log
  rests_then none =
      let was = s.rests (sym p.copied ∙ none) in
      let within = slice_get_within m.history m.before_log was.entry was.found in
      record {
        entry = was.entry;
        found =
            ap (slice_get n.history) p.before_log ∙ ap (λ (h : History). slice_get h m.before_log) p.history
            ∙ get-front m.history (made.entry ∷ []) m.before_log within ∙ was.found;
        is =
            subst (λ (h : WalHeader). IsFileEntry h.size n.file was.entry) (sym p.head)
            (subst (λ (file : List ℕ). IsFileEntry m.head.size file was.entry) (sym p.file) was.is);
      }

  some_now : m.committed ++ made.bytes ≡ [] → ⊥
  some_now none =
      let long = (accepts (m.committed ++ made.bytes) m.head (accepted_now m s pages size is made mk)).long in
      absurd (omega (arith, long, ap length none))

  pub sound_done : IsSound n
  sound_done = record {
    legal = (commit_step (database_of m) (database_of n) adds_now).legal s.legal;
    sums = subst HasSums (sym p.head) s.sums;
    current = record { count = size; is = state_then };
    counted = counted_then;
    numbered = omega (
      arith,
      p.before_log,
      s.numbered,
      ap length p.history,
      length-append m.history
          (made.entry ∷ []),
      marks_then,
    );
    rests = rests_then;
    files =
        subst (λ (x : WalHeader). HasFile x n.file n.committed n.copied) (sym p.head)
        (subst (λ (x : List ℕ). HasFile m.head x n.committed n.copied) (sym p.file)
        (subst (λ (x : List ℕ). HasFile m.head m.file x n.copied) (sym p.committed)
        (subst (λ (x : ℕ). HasFile m.head m.file (m.committed ++ made.bytes) x) (sym p.copied) files_then)));
    last = last_then m s pages size is made mk;
    stands = λ some.
        subst (λ (x : WalHeader). StandsAt x n.sums (last_then m s pages size is made mk) n.committed) (sym p.head)
        (subst (λ (x : WalSum). StandsAt m.head x (last_then m s pages size is made mk) n.committed) (sym p.sums)
        (subst (λ (x : List ℕ). StandsAt m.head made.sums (last_then m s pages size is made mk) x) (sym p.committed)
        (stands_now m s pages size is made mk)));
    begun = λ none. absurd (some_now (sym p.committed ∙ none));
    over = p.over;
    headed = λ _ none. absurd (some_now (sym p.committed ∙ none));
    has_head = λ _. p.headed;
  }
