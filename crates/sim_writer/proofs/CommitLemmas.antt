-- A commit is a legal move, and leaves the machine sound.
use Rattle.std.proofs.Common.{◌≡◌, ◌≢◌, ℕ, ◌+◌, ◌*◌, ◌≤◌, List, [], ◌∷◌, ◌++◌, length, map}
use Rattle.std.proofs.Common.{Option, Some, None}
use Rattle.std.proofs.Common.{Ok, refl, sym, ap, subst, ◌∙◌, append_assoc, append-nil, length-append, arith}
use Rattle.std.specs.Prelude.{unwrap_or}
use Rattle.std.specs.List.{concat, range_with_len, slice_get}
use Rattle.std.specs.Option.{option_or}
use Rattle.std.specs.FinMap.{keys}
use Rattle.std.proofs.Math.Nat.{mul-le-mul_right}
use Rattle.std.proofs.lemmas.Bool.{ne_eqb}
use Rattle.std.proofs.lemmas.List.{take_all}
use Rattle.ls_base.specs.declared.mark.Mark.{Mark}
use Rattle.ls_base.specs.declared.place.Place.TheVariants.{Wal}
use Rattle.ls_base.specs.PageSize.{lock_page}
use Rattle.ls_base.specs.State.{State, IsState, page_of}
use Rattle.ls_base.specs.History.{state_of}
use Rattle.ls_sums.specs.declared.wal_sum.WalSum.{WalSum}
use Rattle.wal_frames.specs.declared.header.WalHeader.{WalHeader}
use Rattle.wal_frames.specs.WalFormat.{read_header}
use Rattle.wal_frames.specs.WalFrame.{commit_size}
use Rattle.wal_frames.specs.ValidPrefix.{frames_under, valid_frames}
use Rattle.wal_frames.specs.Marks.{mark_with, place_of, last_mark_of, bytes_to, committed_part}
use Rattle.wal_frames.specs.View.{frames_page, frames_to, file_page, unless_locked, view_under}
use Rattle.wal_frames.proofs.MarkLemmas.{valid_is, last_is, last-more}
use Rattle.wal_frames.proofs.ViewLemmas.{view_is, is_view, page_made}
use Rattle.std.proofs.lemmas.List.FromFn.{length-map-range_with_len}
use Rattle.live_gate.specs.Legal.{Commit, all_frames, commit_mark, FitsCommit, last_state}
use Rattle.live_gate.proofs.StillLegalLemmas.{frames_page-append, frames_here}
use Rattle.sim_writer.specs.declared.commit.Made.{Made}
use Rattle.sim_writer.specs.declared.machine.Machine.{Machine}
use Rattle.sim_writer.specs.CommitFrames.{PagesByNumber, IsCommit, commit_frames, commit_sums}
use Rattle.sim_writer.specs.Commits.{Makes, front_of, page_after}
use Rattle.sim_writer.specs.Sound.{IsSound, StandsAt, page_behind, state_behind}
use Rattle.sim_writer.proofs.PageLemmas.{no_frames}
use Rattle.sim_writer.proofs.SplitLemmas.{Splits, page_of_number, all_sized, splits, frames_have_pages}
use Rattle.sim_writer.proofs.StandLemmas.{HasGrown, last_behind, stands_begun, grown_by}

none_by : (size : ℕ) (fs : List (List ℕ)) → 32 ≡ 32 + length fs * (24 + size) → fs ≡ []
none_by size [] e = refl
none_by size (f ∷ fs) e =
    let least : 1 * (24 + size) ≤ length (f ∷ fs) * (24 + size) = mul-le-mul_right (24 + size) (omega arith) in
    absurd (omega (arith, e, least))

first_of_list : (xs : List ℕ) → xs ≢ [] → (n : ℕ) × (slice_get xs 0 ≡ Some n)
first_of_list [] some = absurd (some refl)
first_of_list (x ∷ xs) some = (x, refl)

same_mark : (a b : Mark) → ◌≡◌ {A = Option Mark} (Some a) (Some b) → a ≡ b
same_mark a b e = cc

same_state : (a b : State) → ◌≡◌ {A = Option State} (Some a) (Some b) → a ≡ b
same_state a b e = cc

many_by : (h : WalHeader) (file : List ℕ) (frames : List (List ℕ)) (count : ℕ)
    → length (state_behind h file frames count).pages ≡ count
many_by h file frames count = length-map-range_with_len (page_behind h file frames) 1 count

page_of-by : (h : WalHeader) (file : List ℕ) (frames : List (List ℕ)) (count p : ℕ) → 1 ≤ p → p ≤ count
    → page_of (state_behind h file frames count) p ≡ Some (page_behind h file frames p)
page_of-by h file frames count p low high = page_made (page_behind h file frames) (Some h.size) count p low high

-- the log behind which the frames of the next commit stand
pub record IsBase (m : Machine) (base : List ℕ) : Type 0 where
  pub last : Option Mark
  pub stands : StandsAt m.head m.sums last base
  pub frames : valid_frames base ≡ valid_frames m.committed

module _ (m : Machine) (s : IsSound m) (pages : PagesByNumber) (size : ℕ) (is : IsCommit m.head.size pages size)
    (made : Made) (mk : Makes m pages size made) where
  abbrev h : WalHeader
  h = m.head

  abbrev pub fs : List (List ℕ)
  fs = commit_frames m.head m.sums pages size (keys pages)

  abbrev passed : List (List ℕ)
  passed = valid_frames m.committed

  abbrev pub base : List ℕ
  base = m.committed ++ mk.front

  abbrev grown : List ℕ
  grown = m.committed ++ made.bytes

  begun_base : m.committed ≡ [] → IsBase m base
  begun_base none =
      let bare : base ≡ mk.front = ap (λ (b : List ℕ). b ++ mk.front) none in
      let len = mk.is_front.long none in
      let begun = stands_begun h mk.front len (mk.is_front.reads none) in
      let sums = subst (λ (x : WalSum). StandsAt h x None mk.front) (sym (s.begun none)) begun in
      let many : 32 ≡ 32 + length (frames_under h mk.front) * (24 + h.size) = omega (arith, len, begun.taken.is_end) in
      record {
        last = None;
        stands = subst (λ (b : List ℕ). StandsAt h m.sums None b) (sym bare) sums;
        frames = ap valid_frames bare ∙ valid_is mk.front h begun.taken.accepted
            ∙ none_by h.size (frames_under h mk.front) many ∙ sym (no_frames m.committed none);
      }

  pub base_is : IsBase m base
  base_is = by m.committed refl
    where
      by : (log : List ℕ) → log ≡ m.committed → IsBase m base
      by [] e = begun_base (sym e)
      by (b ∷ bs) e =
          let some : m.committed ≢ [] = λ none. let same : b ∷ bs ≡ [] = e ∙ none in absurd cc in
          let bare : mk.front ≡ [] = mk.is_front.is ∙ ap (front_of h) (sym e) in
          let whole : base ≡ m.committed = ap (λ (f : List ℕ). m.committed ++ f) bare ∙ append-nil m.committed in
          record {
            last = s.last;
            stands = subst (λ (b : List ℕ). StandsAt h m.sums s.last b) (sym whole) (s.stands some);
            frames = ap valid_frames whole;
          }

  bytes_are : grown ≡ base ++ concat fs
  bytes_are = ap (λ (b : List ℕ). m.committed ++ b) mk.bytes ∙ sym (append_assoc m.committed mk.front (concat fs))

  size_some : size ≢ 0
  size_some zeros =
      let first = first_of_list (keys pages) is.some in
      let page = page_of_number pages 0 first.0 first.1 in
      let can = is.each first.0 page.0 page.1 in
      absurd (omega (arith, can.from, can.upto, zeros))

  abbrev pub last_then : Option Mark
  last_then = last_behind h m.sums pages size (keys pages) base base_is.last

  grows : HasGrown h (commit_sums h m.sums pages size (keys pages)) last_then base (base ++ concat fs) fs
  grows = grown_by h pages size (keys pages) m.sums base_is.last base base_is.stands (all_sized h.size pages size is)
      mk.checked

  pub sp : Splits h size (commit_sums h m.sums pages size (keys pages)) last_then (base ++ concat fs) fs
  sp = splits h pages size size_some (keys pages) m.sums base_is.last base is.some (all_sized h.size pages size is)
      mk.checked

  abbrev pub c : Commit
  c = record { frames = sp.front; last = sp.final }

  pub stands_now : StandsAt h made.sums last_then grown
  stands_now =
      subst (λ (b : List ℕ). StandsAt h made.sums last_then b) (sym bytes_are)
      (subst (λ (x : WalSum). StandsAt h x last_then (base ++ concat fs)) (sym mk.sums) grows.stands)

  pub accepted_now : read_header grown ≡ Ok h
  accepted_now = stands_now.taken.accepted

  pub frames_now : valid_frames grown ≡ passed ++ all_frames c
  frames_now =
      ap valid_frames bytes_are ∙ grows.frames ∙ ap (λ (x : List (List ℕ)). x ++ fs) base_is.frames
      ∙ ap (λ (x : List (List ℕ)). passed ++ x) sp.split

  grouped : passed ++ all_frames c ≡ (passed ++ sp.front) ++ sp.final ∷ []
  grouped = sym (append_assoc passed sp.front (sp.final ∷ []))

  under_now : frames_under h grown ≡ (passed ++ sp.front) ++ sp.final ∷ []
  under_now = sym (valid_is grown h accepted_now) ∙ frames_now ∙ grouped

  commits_now : commit_size sp.final ≢ 0
  commits_now zeros = size_some (sym sp.commits ∙ zeros)

  abbrev mark : Mark
  mark = commit_mark h passed c

  last_now : last_mark_of grown ≡ Some mark
  last_now = last_is grown h ((passed ++ sp.front) ++ sp.final ∷ []) accepted_now under_now
      ∙ rw (last-more h (passed ++ sp.front) sp.final, ne_eqb (commit_size sp.final) 0 commits_now) refl

  pub known_now : last_mark_of grown ≡ Some (mark_with h (length grown) made.sums size)
  known_now =
      sym stands_now.taken.is_last ∙ sp.ends
      ∙ ap (λ (x : WalSum). Some (mark_with h (length (base ++ concat fs)) x size)) (sym mk.sums)
      ∙ ap (λ (b : List ℕ). Some (mark_with h (length b) made.sums size)) (sym bytes_are)

  mark_is : mark ≡ mark_with h (length grown) made.sums size
  mark_is = same_mark _ _ (sym last_now ∙ known_now)

  place_now : made.entry.place ≡ place_of mark
  place_now =
      mk.place
      ∙ ap (λ (n : ℕ). Wal h.salt1 h.salt2 n made.sums.s0 made.sums.s1) (sym (length-append m.committed made.bytes))
      ∙ ap place_of (sym mark_is)

  pub whole_now : committed_part grown ≡ grown
  whole_now = ap (λ (o : Option Mark). bytes_to o grown) known_now ∙ take_all (length grown) grown (omega arith)

  -- ---- the pages

  page_same : (p : ℕ) → page_after h m.file passed pages p ≡ page_behind h m.file (passed ++ fs) p
  page_same p =
      ap (λ (o : Option (List ℕ)). unless_locked h.size p
      (unwrap_or (option_or o (frames_page p passed)) (file_page h.size m.file p)))
      (sym (frames_have_pages h pages size p m.sums mk.checked))
      ∙ ap (λ (o : Option (List ℕ)). unless_locked h.size p (unwrap_or o (file_page h.size m.file p)))
      (sym (frames_page-append p passed fs))

  state_then : state_of made.entry ≡ state_behind h m.file (passed ++ all_frames c) size
  state_then =
      let made_of : page_after h m.file passed pages ≡ page_behind h m.file (passed ++ fs) = λ i p. page_same p i in
      ap (λ (n : ℕ). record { page_size = Some n; pages = made.entry.pages }) mk.is_size
      ∙ ap (λ (ps : List (List ℕ)). record { page_size = Some h.size; pages = ps }) mk.pages_are
      ∙ ap (λ (f : ℕ → List ℕ). record { page_size = Some h.size; pages = map f (range_with_len 1 size) }) made_of
      ∙ ap (λ (x : List (List ℕ)). state_behind h m.file (passed ++ x) size) sp.split

  pub state_now : state_of made.entry ≡ state_behind h m.file (valid_frames grown) size
  state_now = state_then ∙ ap (λ (x : List (List ℕ)). state_behind h m.file x size) (sym frames_now)

  view_then : view_under h m.file (passed ++ all_frames c) mark ≡ state_behind h m.file (passed ++ all_frames c) size
  view_then =
      let all : frames_to h (passed ++ all_frames c) mark ≡ passed ++ all_frames c =
      ap (λ (x : List (List ℕ)). frames_to h x mark) grouped ∙ frames_here h m.file (passed ++ sp.front) [] sp.final
      ∙ sym grouped in
      ap (λ (x : List (List ℕ)). state_behind h m.file x (commit_size sp.final)) all
      ∙ ap (λ (n : ℕ). state_behind h m.file (passed ++ all_frames c) n) sp.commits

  is_state_now : IsState (state_of made.entry)
  is_state_now =
      let view = is_view grown h accepted_now m.file mark in
      let at = view_is grown h accepted_now m.file mark
      ∙ ap (λ (x : List (List ℕ)). view_under h m.file x mark) (under_now ∙ sym grouped) ∙ view_then ∙ sym state_then in
      subst IsState at view.is_state

  many_now : length made.entry.pages ≡ size
  many_now = ap (λ (x : State). length x.pages) state_then ∙ many_by h m.file (passed ++ all_frames c) size

  page_now : (p : ℕ) → 1 ≤ p → p ≤ length made.entry.pages
      → page_of (state_of made.entry) p ≡ Some (page_behind h m.file (passed ++ all_frames c) p)
  page_now p low high = ap (λ (x : State). page_of x p) state_then
      ∙ page_of-by h m.file (passed ++ all_frames c) size p low (omega (arith, high, many_now))

  in_all : (p : ℕ) (o : Option (List ℕ)) → frames_page p (all_frames c) ≡ o
      → frames_page p (passed ++ all_frames c) ≡ option_or o (frames_page p passed)
  in_all p o found = frames_page-append p passed (all_frames c)
      ∙ ap (λ (x : Option (List ℕ)). option_or x (frames_page p passed)) found

  written_now : (p : ℕ) (page : List ℕ) → 1 ≤ p → p ≤ length made.entry.pages → p ≢ lock_page h.size
      → frames_page p (all_frames c) ≡ Some page → page_of (state_of made.entry) p ≡ Some page
  written_now p page low high other found =
      page_now p low high
      ∙ ap (λ (o : Option (List ℕ)). Some (unless_locked h.size p (unwrap_or o (file_page h.size m.file p))))
      (in_all p (Some page) found)
      ∙ rw (ne_eqb p (lock_page h.size) other) refl

  kept_now : (t : State) (p : ℕ) → last_state None m.history ≡ Some t → 1 ≤ p → p ≤ length made.entry.pages
      → p ≤ length t.pages → frames_page p (all_frames c) ≡ None → page_of (state_of made.entry) p ≡ page_of t p
  kept_now t p e low high within none =
      let count = s.current.count in
      let same : t ≡ state_behind h m.file passed count = same_state _ _ (sym e ∙ s.current.is) in
      let few : p ≤ count = omega (
        arith,
        within,
        ap (λ (x : State). length x.pages) same,
        many_by h m.file passed
            count,
      ) in
      page_now p low high
      ∙ ap (λ (o : Option (List ℕ)). Some (unless_locked h.size p (unwrap_or o (file_page h.size m.file p))))
      (in_all p None none)
      ∙ sym (ap (λ (x : State). page_of x p) same ∙ page_of-by h m.file passed count p low few)

  pub fits_now : FitsCommit h m.file m.copied passed (last_state None m.history) c made.entry
  fits_now = record {
    unfinished = sp.none;
    commits = commits_now;
    place = place_now;
    size = mk.is_size;
    same_size = λ t e. ap (λ (x : State). x.page_size) (same_state _ _ (sym e ∙ s.current.is));
    is_state = is_state_now;
    many = many_now ∙ sym sp.commits;
    written = written_now;
    kept = kept_now;
    view = λ _. state_then ∙ sym view_then;
  }
