-- The log of a replica, and its list of files.
use Rattle.std.proofs.Common.{◌≡◌, ℕ, zero, suc, ◌+◌, ◌-◌, ◌<◌, ◌≤◌, max, Bool, cond, List, [], ◌∷◌, ◌++◌, length, map}
use Rattle.std.proofs.Common.{get_or, Option, Some, None, refl, sym, ap, subst, ◌∙◌, inl, inr, ⊎_elim, length-append}
use Rattle.std.proofs.Common.{arith}
use Rattle.std.specs.Prelude.{◌⊎◌, IsSome, option_and_then, option_map, unwrap_or}
use Rattle.std.specs.FinMap.{get}
use Rattle.std.specs.List.{Contains, All, AllByRecursion, slice_get}
use Rattle.std.specs.List.Sorted.{IsNonDecreasing}
use Rattle.std.proofs.Math.Seq.{get_or-append_seam}
use Rattle.std.proofs.lemmas.Bool.{cases_lt, cases_eq, ne_eqb, eq-eqb}
use Rattle.std.proofs.lemmas.List.{get_or_append_left, length-map, map-append}
use Rattle.std.proofs.lemmas.List.Elements.{All-head, All-tail, Contains-append_cases, Contains-append_right}
use Rattle.std.proofs.lemmas.List.Elements.{Contains-push_cases}
use Rattle.crash_disk.specs.Files.{Files}
use Rattle.ls_base.specs.declared.line.Line.{Line}
use Rattle.ls_base.proofs.StateLemmas.{there_at}
use Rattle.ls_base.specs.History.{History, state_at}
use Rattle.ls_base.specs.SyncLog.{SyncLog, IsSyncLog, line_of, recorded_state}
use Rattle.ltx_format.specs.declared.header.LtxHeader.{LtxHeader}
use Rattle.ltx_format.specs.LtxFormat.{HasHeader}
use Rattle.ltx_format.proofs.FrontLemmas.{same_header}
use Rattle.replica_store.specs.declared.dated_names.Dated.{Dated}
use Rattle.replica_store.specs.declared.file_name.FileName.{FileName}
use Rattle.replica_store.specs.Chain.{names_of, moment_of}
use Rattle.replica_store.specs.Dating.{HaveMoments, IsHeaderUnder}
use Rattle.replica_store.specs.Faithful.{IsFaithful, IsFaithfulFile}
use Rattle.replica_store.specs.Listing.{path_of, paths_of, bytes_under, IsValid, IsIn, AreListed}
use Rattle.replica_store.proofs.ExtendedLemmas.{begins_with_header}
use Rattle.replica_store.proofs.FaithLemmas.{is_path, there_with}
use Rattle.replica_store.proofs.PathLemmas.{one_file_name}
use Rattle.replica_sync.specs.Newest.{newest_of, next_moment, moment_behind}

-- ---- one line more

push_rises : (xs : List ℕ) (m : ℕ) → IsNonDecreasing xs → ((d : ℕ) → 0 < length xs → get_or xs (length xs - 1) d ≤ m)
    → IsNonDecreasing (xs ++ m ∷ [])
push_rises xs m rises low i j d before within =
    let many = length-append xs (m ∷ []) in
    elim (cases_lt j (length xs)) [
      | inl inside ↦
          let a = get_or_append_left xs (m ∷ []) d i (omega (arith, before, inside)) in
          let b = get_or_append_left xs (m ∷ []) d j inside in
          let up = rises i j d before inside in
          omega (arith, a, b, up)
      | inr past ↦
          let last : j ≡ length xs = omega (arith, past, within, many) in
          let b : get_or (xs ++ m ∷ []) j d ≡ m =
          ap (λ (n : ℕ). get_or (xs ++ m ∷ []) n d) last ∙ get_or-append_seam xs m [] d in
          elim (cases_lt i (length xs)) [
            | inl inside ↦
                let a = get_or_append_left xs (m ∷ []) d i inside in
                let up = rises i (length xs - 1) d (omega (arith, inside)) (omega (arith, inside)) in
                let top = low d (omega (arith, inside)) in
                omega (arith, a, b, up, top)
            | inr also ↦
                let same : i ≡ j = omega (arith, also, before, last) in
                let e = ap (λ (n : ℕ). get_or (xs ++ m ∷ []) n d) same in
                omega (arith, e)
          ]
    ]

-- the moment of the last line isn't later than that of the next
last_moment : (log : SyncLog) (now : ℕ) (line : Line) → line_of log (length log) ≡ Some line
    → line.moment ≤ moment_behind log now
last_moment log now line is =
    let e : unwrap_or (option_map (λ (l : Line). l.moment) (line_of log (length log))) 0 ≡ line.moment =
    ap (λ (o : Option Line). unwrap_or (option_map (λ (l : Line). l.moment) o) 0) is in
    omega (arith, e)

pub log_rises : (log : SyncLog) (now : ℕ) (line : Line) → IsSyncLog log → moment_behind log now ≤ line.moment
    → IsSyncLog (log ++ line ∷ [])
log_rises log now line rising later =
    let moment = λ (l : Line). l.moment in
    subst IsNonDecreasing (sym (map-append moment log (line ∷ [])))
    (push_rises (map moment log) line.moment rising (λ d some.
    let many = length-map log moment in
    let at = length log - 1 in
    let last = there_at log at (omega (arith, some, many)) in
    let next : length log ≡ suc at = omega (arith, some, many) in
    let low = last_moment log now last.0 (ap (line_of log) next ∙ last.1) in
    let mapped = there_at (map moment log) at (omega (arith, some, many)) in
    let here : get_or (map moment log) (length (map moment log) - 1) d ≡ last.0.moment =
    ap (λ (n : ℕ). get_or (map moment log) n d) (omega (arith, many)) ∙ mapped_at moment log at last.0 d last.1 in
    omega (arith, here, low, later)))
  where
    mapped_at : (f : Line → ℕ) (xs : SyncLog) (i : ℕ) (x : Line) (d : ℕ) → slice_get xs i ≡ Some x
        → get_or (map f xs) i d ≡ f x
    mapped_at f [] i x d is = absurd cc
    mapped_at f (y ∷ ys) zero x d is = ap f (same y x is)
      where
        same : (a b : Line) → ◌≡◌ {A = Option Line} (Some a) (Some b) → a ≡ b
        same a b e = cc
    mapped_at f (y ∷ ys) (suc i) x d is = mapped_at f ys i x d is

-- ---- the list

-- a file of the list ends with the transaction
abbrev pub Ends : ℕ → List Dated → Type 0
Ends t [] = ⊥
Ends t (d ∷ rest) = (d.name.max ≡ t) ⊎ Ends t rest

-- the log has the moment of the file's last transaction
abbrev pub HasLine : SyncLog → Dated → Type 0
HasLine log d = (d.name.max ≤ length log) × (option_map (λ (l : Line). l.moment)
    (line_of log d.name.max) ≡ Some d.moment)

cons_cases : (first : List ℕ) (rest : List (List ℕ)) (text : List ℕ) → Contains (first ∷ rest) text → (first ≡ text)
    ⊎ Contains rest text
cons_cases first rest text among =
    elim (Contains-append_cases (first ∷ []) rest text among) [
      | inl here ↦ elim (Contains-push_cases [] first text here)
          [ inl none ↦ absurd (omega (arith, none.1)) | inr same ↦ inl same ]
      | inr later ↦ inr later
    ]

-- the greatest is that of a list which has it, and none beyond it
newest_low : (log : SyncLog) (dated : List Dated) → AllByRecursion (HasLine log) dated → newest_of dated ≤ length log
newest_low log [] all = omega arith
newest_low log (d ∷ rest) all = let low = newest_low log rest all.1 in omega (arith, low, all.0.0)

newest_high : (t : ℕ) (dated : List Dated) → Ends t dated → t ≤ newest_of dated
newest_high t [] ends = absurd ends
newest_high t (d ∷ rest) (inl here) = omega (arith, here)
newest_high t (d ∷ rest) (inr later) = let up = newest_high t rest later in omega (arith, up)

-- the moment of a transaction is that of its line, where a file ends with it
moment_is : (log : SyncLog) (dated : List Dated) (t : ℕ) → AllByRecursion (HasLine log) dated
    → ((Ends t dated → ⊥) × (moment_of dated t ≡ None))
    ⊎ (moment_of dated t ≡ option_map (λ (l : Line). l.moment) (line_of log t))
moment_is log [] t all = inl (λ ends. ends, refl)
moment_is log (d ∷ rest) t all =
    elim (cases_eq d.name.max t) [
      | inl here ↦ inr (ap (λ (b : Bool). cond b (Some d.moment) (moment_of rest t)) (eq-eqb d.name.max t here)
          ∙ sym all.0.1 ∙ ap (λ (n : ℕ). option_map (λ (l : Line). l.moment) (line_of log n)) here)
      | inr other ↦
          let skip : moment_of (d ∷ rest) t ≡ moment_of rest t =
          ap (λ (b : Bool). cond b (Some d.moment) (moment_of rest t)) (ne_eqb d.name.max t other) in
          ⊎_elim (λ none. inl (⊎_elim other none.0, skip ∙ none.1)) (λ is. inr (skip ∙ is)) (moment_is log rest t all.1)
    ]

module _ (files : Files) (history : History) (log : SyncLog) (faithful : IsFaithful files history log) where
  -- each file of the list has its line
  has_line : (name : FileName) (moment : ℕ) (header : LtxHeader) → IsIn files name → IsHeaderUnder files name header
      → header.moment ≡ moment → HasLine log (record { name = name; moment = moment })
  has_line name moment header there under is = (
    faithful.within name there,
    there_with (get files (path_of name)) there.there (λ bytes found.
        let file : IsFaithfulFile history log name.min name.max bytes = faithful.each name bytes there.valid found in
        let own : bytes_under files (path_of name) ≡ bytes = ap (λ (f : Option (List ℕ)). unwrap_or f []) found in
        let one : header ≡ file.header =
        same_header bytes header file.header (subst (λ (b : List ℕ). HasHeader b header) own under.has)
        (begins_with_header bytes file.header file.change file.file.file) in
        ap (λ (o : Option Line). option_map (λ (l : Line). l.moment) o) file.line
        ∙ ap (λ (h : LtxHeader). Some h.moment) (sym one) ∙ ap (λ (n : ℕ). Some n) is),
  )

  have_lines : (dated : List Dated) → All IsValid (names_of dated)
      → ((text : List ℕ) → Contains (paths_of (names_of dated)) text → IsSome (get files text))
      → HaveMoments files dated
      → AllByRecursion (HasLine log) dated
  have_lines [] valid there moments = tt
  have_lines (d ∷ rest) valid there moments = (
    has_line d.name d.moment moments.0.0 (record {
      valid = All-head IsValid d.name (names_of rest) valid;
      there = there
          (path_of d.name) (0, omega arith, refl);
    }) moments.0.1 moments.0.2,
    have_lines rest (All-tail IsValid d.name (names_of rest) valid)
        (λ text among. there text (Contains-append_right (path_of d.name ∷ []) (paths_of (names_of rest)) text among))
        moments.1,
  )

  ends_with : (dated : List Dated) (name : FileName) → All IsValid (names_of dated) → IsValid name
      → Contains (paths_of (names_of dated)) (path_of name) → Ends name.max dated
  ends_with [] name valid own among = absurd (omega (arith, among.1))
  ends_with (d ∷ rest) name valid own among =
      ⊎_elim
      (λ here. inl (ap (λ (n : FileName). n.max) (one_file_name d.name name
      (All-head IsValid d.name (names_of rest) valid) own here)))
      (λ later. inr (ends_with rest name (All-tail IsValid d.name (names_of rest) valid) own later))
      (cons_cases (path_of d.name) (paths_of (names_of rest)) (path_of name) among)

  module _ (dated : List Dated) (listed : AreListed files (names_of dated)) (moments : HaveMoments files dated) where
    lines : AllByRecursion (HasLine log) dated
    lines = have_lines dated listed.valid (λ text among. ((listed.each text).0 among).1) moments

    last_ends : 0 < length log → Ends (length log) dated
    last_ends some =
        let last = faithful.reached some in
        subst (λ (t : ℕ). Ends t dated) last.2
        (ends_with dated last.0 listed.valid last.1.valid ((listed.each (path_of last.0)).1
        (is_path last.0 last.1.valid, last.1.there)))

    -- the newest transaction of the list is the log's last
    pub newest_is : newest_of dated ≡ length log
    newest_is =
        let low = newest_low log dated lines in
        elim (cases_lt 0 (length log)) [
          | inl some ↦ let up = newest_high (length log) dated (last_ends some) in omega (arith, low, up)
          | inr none ↦ omega (arith, low, none)
        ]

    last_dated : unwrap_or (moment_of dated (length log)) 0
        ≡ unwrap_or (option_map (λ (l : Line). l.moment) (line_of log (length log))) 0
    last_dated =
        ⊎_elim
        (λ none. elim (cases_lt 0 (length log)) [
          | inl some ↦ absurd (none.0 (last_ends some))
          | inr empty ↦
              let zero_long : length log ≡ 0 = omega (arith, empty) in
              ap (λ (o : Option ℕ). unwrap_or o 0) none.1
              ∙ ap (λ (n : ℕ). unwrap_or (option_map (λ (l : Line). l.moment) (line_of log n)) 0) (sym zero_long)
        ])
        (λ is. ap (λ (o : Option ℕ). unwrap_or o 0) is)
        (moment_is log dated (length log) lines)

    -- and the next moment is that behind the log
    pub next_is : (now : ℕ) → next_moment dated now ≡ moment_behind log now
    next_is now =
        ap (λ (n : ℕ). max now (unwrap_or (moment_of dated n) 0)) newest_is ∙ ap (max now) last_dated

-- ---- lines and their states

get-last : (log : SyncLog) (line : Line) → slice_get (log ++ line ∷ []) (length log) ≡ Some line
get-last [] line = refl
get-last (first ∷ log) line = get-last log line

get-front : (log : SyncLog) (line : Line) (t : ℕ) → t < length log → slice_get (log ++ line ∷ []) t ≡ slice_get log t
get-front [] line t below = absurd (omega (arith, below))
get-front (x ∷ xs) line zero below = refl
get-front (x ∷ xs) line (suc t) below = get-front xs line t (omega (arith, below))

pub next_line : (log : SyncLog) (line : Line) (t : ℕ) → t ≡ length log + 1 → line_of (log ++ line ∷ []) t ≡ Some line
next_line log line t is =
    let next : t ≡ suc (length log) = omega (arith, is) in
    ap (line_of (log ++ line ∷ [])) next ∙ get-last log line

pub older_line : (log : SyncLog) (line : Line) (t : ℕ) → t ≤ length log → line_of (log ++ line ∷ []) t ≡ line_of log t
older_line log line zero below = refl
older_line log line (suc t) below = get-front log line t (omega (arith, below))

pub recorded_line : (history : History) (log : SyncLog) (t : ℕ) (line : Line) → line_of log t ≡ Some line
    → recorded_state history log t ≡ state_at history line.place
recorded_line history log zero line is = absurd cc
recorded_line history log (suc t) line is = ap (option_and_then (λ (l : Line). state_at history l.place)) is
