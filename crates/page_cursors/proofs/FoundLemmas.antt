-- A file under a name, taken in or left.
use Rattle.std.proofs.Common.{◌≡◌, ℕ, Bool, true, false, eqb, List, [], Option}
use Rattle.std.proofs.Common.{Some, None, refl, sym, subst, inl, inr, arith}
use Rattle.std.specs.Prelude.{◌⊎◌, ◌||◌, if◌then◌else◌, not, unwrap_or}
use Rattle.std.specs.List.{Contains}
use Rattle.std.proofs.lemmas.Bool.{eqb-true, eqb-false}
use Rattle.crash_disk.specs.Files.{Files}
use Rattle.ls_base.specs.Change.{Change}
use Rattle.ls_base.specs.PageSize.{lock_page}
use Rattle.ltx_format.specs.declared.header.LtxHeader.{LtxHeader}
use Rattle.ltx_format.specs.LtxFormat.{IsLtxFile}
use Rattle.ltx_reader.specs.declared.progress.Progress.TheVariants.{Going}
use Rattle.ltx_reader.specs.Reader.{Reader, pages_left, pages_of}
use Rattle.replica_store.specs.declared.error.Damage.{Damage}
use Rattle.replica_store.specs.declared.error.Damage.TheVariants.{NameDiffers, SizeDiffers}
use Rattle.replica_store.specs.declared.file_name.FileName.{FileName}
use Rattle.replica_store.specs.FileOf.{IsDamage}
use Rattle.page_cursors.specs.declared.opening.Found.TheVariants.{Taken, Left}
use Rattle.page_cursors.specs.declared.opening.Odd.{Odd}
use Rattle.page_cursors.specs.declared.wanted.Wanted.{Wanted}
use Rattle.page_cursors.specs.Cursor.{HasEnded, ReadsFile, bytes_of}
use Rattle.page_cursors.specs.Opening.{IsFound, IsOdd, IsOddDamage, doubt_of, size_doubt}
use Rattle.page_cursors.specs.Wanted.{Wants}
use Rattle.page_cursors.proofs.ReaderLemmas.{ended_file}

-- a file that isn't taken in, and was read to its end
pub odd_ended : (files : Files) (size : ℕ) (odd : Odd) (reader ended : Reader) → odd.reader ≡ Some reader
    → HasEnded files odd.name reader ended → IsOdd files size odd → IsOddDamage files size odd odd.damage
odd_ended files size odd reader ended at has is =
    let end = has.ended (is.reads reader at) in
    let file = ended_file (bytes_of files odd.name) ended end.0.reads end.1 in
    record {
      damaged = is.unless reader file.0 at
          (subst (λ (h : LtxHeader). IsLtxFile (bytes_of files odd.name) h file.0) has.header file.1);
      same = λ e. e;
    }

-- ---- what is wrong by header and name

name_or_size : (x y : Bool) (own : ℕ) (size : Option ℕ) (damage : Damage)
    → (if not x || not y then Some NameDiffers else size_doubt own size) ≡ Some damage
    → (((x ≡ false) ⊎ (y ≡ false)) × (NameDiffers ≡ damage)) ⊎ ((x ≡ true) × (y ≡ true) ×
    (size_doubt own size ≡ Some damage))
name_or_size true true own size damage is = inr (refl, refl, is)
name_or_size true false own size damage is = inl (inr refl, cc)
name_or_size false true own size damage is = inl (inl refl, cc)
name_or_size false false own size damage is = inl (inl refl, cc)

neither : (x y : Bool) (own : ℕ) (size : Option ℕ)
    → (if not x || not y then Some NameDiffers else size_doubt own size) ≡ None → (x ≡ true) × (y ≡ true)
neither true true own size is = (refl, refl)
neither true false own size is = absurd cc
neither false true own size is = absurd cc
neither false false own size is = absurd cc

some_size : (own s : ℕ) (b : Bool) (damage : Damage) → (if b then None else Some SizeDiffers) ≡ Some damage
    → (b ≡ false) × (SizeDiffers ≡ damage)
some_size own s true damage is = absurd cc
some_size own s false damage is = (refl, cc)

size_unless : (bytes : List ℕ) (name : FileName) (size : Option ℕ) (header : LtxHeader) (c : Change) (damage : Damage)
    → header.min ≡ name.min → header.max ≡ name.max → size_doubt header.size size ≡ Some damage
    → IsLtxFile bytes header c
    → IsDamage bytes name (unwrap_or size 0) damage
size_unless bytes name None header c damage from to is file = absurd cc
size_unless bytes name (Some size) header c damage from to is file =
    let which = some_size header.size size (eqb size header.size) damage is in
    subst (λ (d : Damage). IsDamage bytes name size d) which.1
    (record {
      header = header;
      change = c;
      file = record { file = file; from_min = from; to_max = to };
      differs = λ e. eqb-false size header.size which.0 (sym e);
    })

-- what is in doubt is wrong where the file has no fault
doubt_unless : (bytes : List ℕ) (name : FileName) (size : Option ℕ) (header : LtxHeader) (c : Change) (damage : Damage)
    → doubt_of header name size ≡ Some damage → IsLtxFile bytes header c → IsDamage bytes name (unwrap_or size 0) damage
doubt_unless bytes name size header c damage is file =
    elim (name_or_size (eqb header.min name.min) (eqb header.max name.max) header.size size damage is) [
      | inl named ↦
          subst (λ (d : Damage). IsDamage bytes name (unwrap_or size 0) d) named.1
          (record {
            header = header;
            change = c;
            file = file;
            differs = elim named.0 [
              | inl e ↦ inl (eqb-false header.min name.min e)
              | inr e ↦ inr (eqb-false header.max name.max e)
            ];
          })
      | inr sized ↦
          size_unless bytes name size header c damage (eqb-true header.min name.min sized.0)
          (eqb-true header.max name.max sized.1) sized.2 file
    ]

-- no file is in doubt for its page size where none stands before it
not_first : (x y : Bool) (own : ℕ) (damage : Damage)
    → (if not x || not y then Some NameDiffers else size_doubt own None) ≡ Some damage → damage ≡ SizeDiffers → ⊥
not_first true true own damage is differs = cc
not_first true false own damage is differs = cc
not_first false true own damage is differs = cc
not_first false false own damage is differs = cc

doubt_first : (header : LtxHeader) (name : FileName) (size : Option ℕ) (damage : Damage)
    → doubt_of header name size ≡ Some damage → size ≡ None → damage ≡ SizeDiffers → ⊥
doubt_first header name (Some s) damage is none differs = cc
doubt_first header name None damage is none differs =
    not_first (eqb header.min name.min) (eqb header.max name.max) header.size damage is differs

same_reader : (a b : Reader) → ◌≡◌ {A = Option Reader} (Some a) (Some b) → a ≡ b
same_reader a b e = cc

-- a file that is left, and is still to be read
pub left_for : (files : Files) (name : FileName) (size : Option ℕ) (pages : ℕ) (reader : Reader) (damage : Damage)
    → ReadsFile files name reader → doubt_of reader.header name size ≡ Some damage
    → IsFound files name size pages (Left (record { name = name; damage = damage; reader = Some reader }))
left_for files name size pages reader damage reads is = (
  refl,
  doubt_first reader.header name size damage is,
  record {
    surely = λ none. absurd cc;
    reads = λ r at. subst (λ (x : Reader). ReadsFile files name x) (same_reader reader r at) reads;
    unless = λ r c at file.
        doubt_unless (bytes_of files name) name size reader.header c damage is
        (subst (λ (x : Reader). IsLtxFile (bytes_of files name) x.header c) (sym (same_reader reader r at)) file);
  },
)

none_held : (p : ℕ) → Contains [] p → ⊥
none_held p (k, low, e) = omega (arith, low)

-- a file that is taken in
pub taken_in : (files : Files) (name : FileName) (size : Option ℕ) (pages : ℕ) (reader : Reader) (wanted : Wanted)
    → ReadsFile files name reader → reader.progress ≡ Going
    → pages_left (bytes_of files name) reader ≡ pages_of (bytes_of files name)
    → doubt_of reader.header name size ≡ None → Wants (lock_page reader.header.size) pages [] wanted
    → IsFound files name size pages (Taken (record { name = name; reader = reader; wanted = wanted }))
taken_in files name size pages reader wanted reads going left sure wants =
    let same = neither (eqb reader.header.min name.min)
    (eqb reader.header.max name.max) reader.header.size size sure in (
      refl,
      record {
        open_file = record {
          reads = reads;
          from_min = eqb-true reader.header.min name.min same.0;
          to_max = eqb-true reader.header.max name.max same.1;
          sized = refl;
        };
        split = sym left;
        low = λ p held. absurd (none_held p held);
        within = λ p held. absurd (none_held p held);
        wants = wants;
      },
      going,
    )

pub no_doubt : (doubt : Option Damage) → ((damage : Damage) → doubt ≡ Some damage → ⊥) → doubt ≡ None
no_doubt None none = refl
no_doubt (Some damage) none = absurd (none damage refl)
