-- The view at a mark, and at rest.
use Rattle.std.proofs.Common.{◌≡◌, ◌∙◌, ℕ, zero, suc, ◌+◌, ◌-◌, ◌*◌, ◌/◌, ◌<◌, ◌≤◌, Bool, true, false, cond, eqb, max}
use Rattle.std.proofs.Common.{List, [], ◌∷◌, ◌++◌, length, take, drop, map, replicate, Option, Some, None, unwrap_or}
use Rattle.std.proofs.Common.{Ok, sym, ap, subst, refl, inl, inr, arith, length-append, length-drop, append_assoc}
use Rattle.std.specs.Option.{option_or}
use Rattle.std.specs.List.{AllByRecursion, range_with_len, slice_get}
use Rattle.std.specs.Simd.{first_chunks}
use Rattle.std.proofs.Math.Nat.{add-mul, lt-div-mul-add, mul-le-mul_right, one-le-pow}
use Rattle.std.proofs.lemmas.Bool.{eq-eqb, ne_eqb, cases_lt}
use Rattle.std.proofs.lemmas.List.{length-replicate, length-take-le, take_at, drop_at, drop_all, drop-drop}
use Rattle.std.proofs.lemmas.List.{drop-append-le, take-replicate, drop-replicate, take-append-drop}
use Rattle.std.proofs.lemmas.List.FromFn.{length-map-range_with_len}
use Rattle.ls_base.specs.PageSize.{IsPageSize, lock_page}
use Rattle.ls_base.specs.State.{State, IsState, page_of}
use Rattle.ls_base.proofs.StateLemmas.{page_of-past}
use Rattle.ls_base.specs.declared.mark.Mark.{Mark}
use Rattle.wal_frames.specs.declared.header.WalHeader.{WalHeader}
use Rattle.wal_frames.specs.WalFormat.{read_header}
use Rattle.wal_frames.specs.WalFrame.{frame_length, page_number, frame_page}
use Rattle.wal_frames.specs.ValidPrefix.{whole_frames, frames_under}
use Rattle.wal_frames.specs.Marks.{IsMark}
use Rattle.wal_frames.specs.PrefixLaws.{IsMarkOf}
use Rattle.wal_frames.specs.View.{frames_up_to, frames_to, frames_page, file_page, unless_locked, page_at_mark}
use Rattle.wal_frames.specs.View.{view_under, view_at, file_pages, page_at_rest}
use Rattle.wal_frames.specs.ViewLaws.{IsView, IsRestView}
use Rattle.wal_frames.proofs.AcceptedLemmas.{Accepts, accepts, read_header-append}
use Rattle.wal_frames.proofs.ChunkLemmas.{AreLong}
use Rattle.wal_frames.proofs.CutLemmas.{quotient, whole_frames-long, chunks_in_front}
use Rattle.wal_frames.proofs.PrefixLemmas.{valid-front}
use Rattle.wal_frames.proofs.MarkLemmas.{valid_is, mark_stands}
use Rattle.wal_frames.proofs.BackLemmas.{grouped, end_is, length_cut, frames_under_cut, accepted_cut}
use Rattle.wal_frames.proofs.LogLemmas.{accepted_by_mark, by_its_bytes}

-- ---- pages made of numbers

module _ (f : ℕ → List ℕ) where
  made : (a n k : ℕ) → k < n → slice_get (map f (range_with_len a n)) k ≡ Some (f (a + k))
  made a zero k less = absurd (omega (arith, less))
  made a (suc n) zero less = let e : a + zero ≡ a = omega arith in rw e refl
  made a (suc n) (suc k) less =
      let e : a + 1 + k ≡ a + suc k = omega arith in made (a + 1) n k (omega (arith, less))
      ∙ ap (λ (p : ℕ). Some (f p)) e

  module _ (size : Option ℕ) (n : ℕ) where
    abbrev made_state : State
    made_state = record { page_size = size; pages = map f (range_with_len 1 n) }

    pub page_made : (p : ℕ) → 1 ≤ p → p ≤ n → page_of made_state p ≡ Some (f p)
    page_made zero from upto = absurd (omega (arith, from))
    page_made (suc k) from upto = let e : 1 + k ≡ suc k = omega arith in made 1 n k (omega (arith, upto))
        ∙ ap (λ (p : ℕ). Some (f p)) e

    pub no_page : (p : ℕ) → n < p → page_of made_state p ≡ None
    no_page p past = page_of-past made_state p (omega (arith, past, length-map-range_with_len f 1 n))

  all_sized : (size a n : ℕ) → ((p : ℕ) → length (f p) ≡ size) → AllByRecursion
      (λ page. length page ≡ size) (map f (range_with_len a n))
  all_sized size a zero each = tt
  all_sized size a (suc n) each = (each a, all_sized size (a + 1) n each)

  blank_page : (size n : ℕ) (page : List ℕ) → f (lock_page size) ≡ replicate size 0
      → page_of (made_state (Some size) n) (lock_page size) ≡ Some page → page ≡ replicate size 0
  blank_page size n page blank found =
      elim (cases_lt n (lock_page size)) [
        | inl past ↦ let none : None ≡ Some page = sym (no_page (Some size) n (lock_page size) past)
            ∙ found in absurd cc
        | inr upto ↦
            let made : Some (f (lock_page size)) ≡ Some page =
            sym (page_made (Some size) n (lock_page size) (omega arith) upto) ∙ found in
            let same : f (lock_page size) ≡ page = cc in
            sym same ∙ blank
      ]

  -- pages of the page size, with zeros at the lock page, make a state
  pub state_made : (size n : ℕ) → ((p : ℕ) → length (f p) ≡ size) → f (lock_page size) ≡ replicate size 0
      → IsState (made_state (Some size) n)
  state_made size n each blank = record {
    sized = all_sized size 1 n each;
    blank = λ other is page found.
        let same : size ≡ other = cc in
        blank_page size n page blank (subst (λ (k : ℕ). page_of (made_state (Some size) n) (lock_page k) ≡ Some page)
        (sym same) found)
        ∙ ap (λ (k : ℕ). replicate k 0) same;
  }

-- ---- the length of pages

length-locked : (size : ℕ) (page : List ℕ) (locked : Bool) → length page ≡ size
    → length (cond locked (replicate size 0) page) ≡ size
length-locked size page true len = length-replicate {A = ℕ} size 0
length-locked size page false len = len

locked_is : (size : ℕ) (page : List ℕ) → unless_locked size (lock_page size) page ≡ replicate size 0
locked_is size page = let same : eqb (lock_page size) (lock_page size) ≡ true = eq-eqb (lock_page size)
    (lock_page size) refl in rw same refl

pub length-file_page : (size : ℕ) (file : List ℕ) (p : ℕ) → length (file_page size file p) ≡ size
length-file_page size file p =
    length-take-le size (drop ((p - 1) * size) file ++ replicate size 0)
    (omega (arith, length-append (drop ((p - 1) * size) file) (replicate size 0), length-replicate {A = ℕ} size 0))

-- a page, where there is one, is so long
abbrev IsLong : ℕ → Option (List ℕ) → Type 0
IsLong n None = Unit {0}
IsLong n (Some page) = length page ≡ n

long_or : (n : ℕ) (first second : Option (List ℕ)) → IsLong n first → IsLong n second
    → IsLong n (option_or first second)
long_or n None second a b = b
long_or n (Some page) second a b = a

long_if : (n : ℕ) (page : List ℕ) (has : Bool) → length page ≡ n → IsLong n (cond has (Some page) None)
long_if n page true len = len
long_if n page false len = tt

long_else : (n : ℕ) (page : Option (List ℕ)) (other : List ℕ) → IsLong n page → length other ≡ n
    → length (unwrap_or page other) ≡ n
long_else n None other a b = b
long_else n (Some page) other a b = a

pub frames_page-long : (size p : ℕ) (frames : List (List ℕ)) → AreLong (24 + size) frames
    → IsLong size (frames_page p frames)
frames_page-long size p [] long = tt
frames_page-long size p (frame ∷ frames) long =
    long_or size (frames_page p frames) (cond (eqb (page_number frame) p) (Some (frame_page frame)) None)
    (frames_page-long size p frames long.1)
    (long_if size (frame_page frame) (eqb (page_number frame) p) (omega (arith, long.0, length-drop 24 frame)))

long_take : (n k : ℕ) (frames : List (List ℕ)) → AreLong n frames → AreLong n (take k frames)
long_take n zero frames long = tt
long_take n (suc k) [] long = tt
long_take n (suc k) (frame ∷ frames) long = (long.0, long_take n k frames long.1)

long_front : (n : ℕ) (frames others : List (List ℕ)) → AreLong n (frames ++ others) → AreLong n frames
long_front n [] others long = tt
long_front n (frame ∷ frames) others long = (long.0, long_front n frames others long.1)

-- ---- the view at a mark

module _ (log : List ℕ) (h : WalHeader) (accepted : read_header log ≡ Ok h) where
  pub valid_are_long : AreLong (frame_length h) (frames_under h log)
  valid_are_long =
      let others = valid-front (take 24 log) h [] (whole_frames h log) in
      long_front (frame_length h) (frames_under h log) others.0
      (subst (λ (fs : List (List ℕ)). AreLong (frame_length h) fs) others.1
      (whole_frames-long h log (accepts log h accepted).long))

  module _ (file : List ℕ) (mark : Mark) where
    pub view_is : view_at file log mark ≡ view_under h file (frames_under h log) mark
    view_is = rw accepted refl

    pub length-page_at_mark : (p : ℕ) → length (page_at_mark h file (frames_under h log) mark p) ≡ h.size
    length-page_at_mark p =
        let frames = frames_to h (frames_under h log) mark in
        let long = long_take (frame_length h) (frames_up_to h mark) (frames_under h log) valid_are_long in
        length-locked h.size (unwrap_or (frames_page p frames) (file_page h.size file p)) (eqb p (lock_page h.size))
        (long_else h.size (frames_page p frames) (file_page h.size file p) (frames_page-long h.size p frames long)
        (length-file_page h.size file p))

    pub is_view : IsView h file log mark
    is_view =
        let f = page_at_mark h file (frames_under h log) mark in
        let locked = locked_is h.size (unwrap_or
        (frames_page (lock_page h.size) (frames_to h (frames_under h log) mark))
        (file_page h.size file (lock_page h.size))) in
        record {
          is_state = subst IsState (sym view_is) (state_made f h.size mark.commit length-page_at_mark locked);
          size = ap (λ (s : State). s.page_size) view_is;
          many = ap (λ (s : State). length s.pages) view_is ∙ length-map-range_with_len f 1 mark.commit;
          each = λ p from upto.
              ap (λ (s : State). page_of s p) view_is ∙ page_made f (Some h.size) mark.commit p from upto
              ∙ ap (λ (fs : List (List ℕ)). Some (page_at_mark h file fs mark p)) (sym (valid_is log h accepted));
          none = λ p past. ap (λ (s : State). page_of s p) view_is ∙ no_page f (Some h.size) mark.commit p past;
        }

  module _ (mark : Mark) (is_mark : IsMark log mark) where
    abbrev stands : IsMarkOf h (frames_under h log) mark
    stands = mark_stands log h mark accepted is_mark

    abbrev a : Accepts h log
    a = accepts log h accepted

    -- the frames up to the mark
    pub front_at : List (List ℕ)
    front_at = stands.before ++ stands.frame ∷ []

    front_many : frames_up_to h mark ≡ length front_at
    unfolding front_at
    front_many = quotient (mark.end - 32) (frame_length h) (length front_at) 0
        (omega (arith, end_is log h a mark stands)) (omega arith)

    frames_to_front : frames_to h (frames_under h log) mark ≡ front_at
    unfolding front_at
    frames_to_front =
        ap (λ (fs : List (List ℕ)). take (frames_up_to h mark) fs) (grouped log h a mark stands)
        ∙ take_at front_at stands.behind (frames_up_to h mark) (sym front_many)

    pub frames_to_cut : frames_to h (frames_under h log) mark ≡ frames_under h (take mark.end log)
    unfolding front_at
    frames_to_cut = frames_to_front ∙ sym (frames_under_cut log h a mark stands)

    pub frames_to_chunks : frames_to h (frames_under h log) mark ≡ first_chunks (frame_length h) (frames_up_to h mark)
        (drop 32 log)
    unfolding front_at
    frames_to_chunks =
        let others = valid-front (take 24 log) h [] (whole_frames h log) in
        let split : whole_frames h log ≡ front_at ++ (stands.behind ++ others.0) =
        others.1 ∙ ap (λ (fs : List (List ℕ)). fs ++ others.0) (grouped log h a mark stands)
        ∙ append_assoc front_at stands.behind others.0 in
        frames_to_front ∙ sym (chunks_in_front h log a.long front_at (stands.behind ++ others.0) split)
        ∙ ap (λ (k : ℕ). first_chunks (frame_length h) k (drop 32 log)) (sym front_many)

    -- a mark's end is behind the header, and in the log
    pub mark_long : 32 ≤ length (take mark.end log)
    mark_long = omega (arith, end_is log h a mark stands, length_cut log h a mark stands)

    pub accepted_front : read_header (take mark.end log) ≡ Ok h
    accepted_front = accepted_cut log h a mark stands accepted

-- the header of a log whose front has it
accepted_by_front : (log : List ℕ) (at : ℕ) (h : WalHeader) → 32 ≤ length (take at log)
    → read_header (take at log) ≡ Ok h → read_header log ≡ Ok h
accepted_by_front log at h long e =
    ap read_header (sym (take-append-drop at log)) ∙ read_header-append (take at log) (drop at log) long ∙ e

same_view : (h : WalHeader) (file : List ℕ) (mark : Mark) (a b : List (List ℕ))
    → frames_to h a mark ≡ frames_to h b mark → view_under h file a mark ≡ view_under h file b mark
same_view h file mark a b same =
    ap (λ (frames : List (List ℕ)). record {
      page_size = Some h.size;
      pages = map (λ p. unless_locked h.size p (unwrap_or (frames_page p frames) (file_page h.size file p)))
          (range_with_len 1 mark.commit);
    }) same

pub view_by_front : (file a b : List ℕ) (mark : Mark) → IsMark a mark → take mark.end a ≡ take mark.end b
    → view_at file a mark ≡ view_at file b mark
view_by_front file a b mark is_mark same =
    let found = accepted_by_mark a mark is_mark in
    let h = found.0 in
    let is_mark_b = by_its_bytes a b mark is_mark same in
    let front : read_header (take mark.end b) ≡ Ok h = ap read_header (sym same)
    ∙ accepted_front a h found.1 mark is_mark in
    let long : 32 ≤ length (take mark.end b) = omega
    (arith, mark_long a h found.1 mark is_mark, ap (λ (xs : List ℕ). length xs) same) in
    let accepted_b = accepted_by_front b mark.end h long front in
    let frames : frames_to h (frames_under h a) mark ≡ frames_to h (frames_under h b) mark =
    frames_to_cut a h found.1 mark is_mark ∙ ap (frames_under h) same
    ∙ sym (frames_to_cut b h accepted_b mark is_mark_b) in
    view_is a h found.1 file mark ∙ same_view h file mark (frames_under h a) (frames_under h b) frames
    ∙ sym (view_is b h accepted_b file mark)

-- ---- the view at rest

take_padded : (n : ℕ) (xs : List ℕ) (a b : ℕ) → n ≤ length xs + a → n ≤ length xs + b
    → take n (xs ++ replicate a 0) ≡ take n (xs ++ replicate b 0)
take_padded n [] a b left right = take-replicate n a 0 (omega (arith, left))
    ∙ sym (take-replicate n b 0 (omega (arith, right)))
take_padded zero (x ∷ xs) a b left right = refl
take_padded (suc n) (x ∷ xs) a b left right = ap (λ (ys : List ℕ). x ∷ ys)
    (take_padded n xs a b (omega (arith, left)) (omega (arith, right)))

page_padded : (size at more : ℕ) (file : List ℕ) → at + size ≤ length file + more
    → take size (drop at file ++ replicate size 0) ≡ take size (drop at (file ++ replicate more 0))
page_padded size at more file fits =
    elim (cases_lt (length file) at) [
      | inr within ↦
          take_padded size (drop at file) size more (omega arith) (omega (arith, fits, within, length-drop at file))
          ∙ ap (λ (xs : List ℕ). take size xs) (sym (drop-append-le at file (replicate more 0) within))
      | inl past ↦
          let none : drop at file ≡ [] = drop_all at file (omega (arith, past)) in
          let behind : drop at (file ++ replicate more 0) ≡ replicate (more - (at - length file)) 0 =
          ap (λ (n : ℕ). drop n (file ++ replicate more 0)) (omega (arith, past))
          ∙ sym (drop-drop (at - length file) (length file) (file ++ replicate more 0))
          ∙ ap (drop (at - length file)) (drop_at file (replicate more 0) (length file) refl)
          ∙ drop-replicate (at - length file) more 0 in
          ap (λ (xs : List ℕ). take size (xs ++ replicate size 0)) none
          ∙ take_padded size [] size (more - (at - length file)) (omega arith) (omega (arith, fits, past))
          ∙ ap (λ (xs : List ℕ). take size xs) (sym behind)
    ]

pub enough_pages : (size : ℕ) (file : List ℕ) → 1 ≤ size → length file ≤ file_pages size file * size
enough_pages size file some =
    let q = (length file + (size - 1)) / size in
    let below : length file + (size - 1) < q * size + size = lt-div-mul-add {a = length file + (size - 1)} {b = size}
    some in
    let more : q * size ≤ max 1 q * size = mul-le-mul_right size (omega arith) in
    omega (arith, below, more)

pub is_rest_view : (size : ℕ) (file : List ℕ) → IsPageSize size → IsRestView size file
is_rest_view size file is_size =
    let f = page_at_rest size file in
    let n = file_pages size file in
    let some : 1 ≤ size = rw is_size.3 (one-le-pow is_size.0 2 (omega arith)) in
    let fits = enough_pages size file some in
    record {
      is_state = state_made f size n
          (λ p. length-locked size (file_page size file p) (eqb p (lock_page size)) (length-file_page size file p))
          (locked_is size (file_page size file (lock_page size)));
      many = length-map-range_with_len f 1 n;
      fits = fits;
      each = λ p from upto other.
          let unlocked : eqb p (lock_page size) ≡ false = ne_eqb p (lock_page size) other in
          let one : (p - 1 + 1) * size ≡ (p - 1) * size + 1 * size = add-mul (p - 1) 1 size in
          let whole : (p - 1 + 1) * size ≤ n * size = mul-le-mul_right size (omega (arith, from, upto)) in
          let last : (p - 1) * size + size ≤ n * size = omega (arith, one, whole) in
          page_made f (Some size) n p from upto
          ∙ ap (λ (locked : Bool). Some (cond locked (replicate size 0) (file_page size file p))) unlocked
          ∙ ap (λ (page : List ℕ). Some page)
          (page_padded size ((p - 1) * size) (n * size - length file) file (omega (arith, last, fits)));
      none = λ p past. no_page f (Some size) n p past;
    }
