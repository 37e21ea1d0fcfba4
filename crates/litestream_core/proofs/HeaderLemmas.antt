-- A file whose header was read for its moment isn't the first with a bad header.
use Rattle.std.proofs.Common.{◌≡◌, List, [], ◌∷◌, ◌++◌, Option, Some, None, ap, subst, ◌∙◌, ⊎_elim}
use Rattle.crash_disk.specs.Files.{Files}
use Rattle.ltx_format.specs.declared.fault.LtxFault.{LtxFault}
use Rattle.ltx_format.specs.declared.header.LtxHeader.{LtxHeader}
use Rattle.replica_store.specs.declared.dated_names.Dated.{Dated}
use Rattle.replica_store.specs.declared.error.Damage.{Damage}
use Rattle.replica_store.specs.declared.error.Damage.TheVariants.{File, NameDiffers, SizeDiffers}
use Rattle.replica_store.specs.declared.file_name.FileName.{FileName}
use Rattle.replica_store.specs.Chain.{names_of}
use Rattle.replica_store.specs.Dating.{IsHeaderUnder, IsHeaderDamage, HaveMoments, AreDated, IsFirstBadHeader}
use Rattle.replica_store.specs.Listing.{path_of, bytes_under}
use Rattle.litestream_core.specs.Laws.{Laws}

none_some : (found : Option LtxFault) (fault : LtxFault) → found ≡ None → found ≡ Some fault → ⊥
none_some found fault none some = cc

pub good_or_bad : Laws → (files : Files) (name : FileName) (header : LtxHeader) (damage : Damage)
    → IsHeaderUnder files name header → IsHeaderDamage files name damage → ⊥
good_or_bad laws files name header (File fault) is damaged = none_some _ fault
    (laws.no_header_fault (bytes_under files (path_of name)) header is.has) damaged
good_or_bad laws files name header NameDiffers is damaged =
    let same = laws.one_header (bytes_under files (path_of name)) damaged.header header damaged.has is.has in
    ⊎_elim (λ differs. differs (ap (λ h. h.min) same ∙ is.from_min))
    (λ differs. differs (ap (λ h. h.max) same ∙ is.to_max)) damaged.differs
good_or_bad laws files name header SizeDiffers is damaged = absurd damaged

some_name : (names : List FileName) (name : FileName) (rest : List FileName) → [] ≡ names ++ name ∷ rest → ⊥
some_name [] name rest e = cc
some_name (n ∷ names) name rest e = cc

moment_at : (files : Files) (dated : List Dated) (before : List FileName) (name : FileName) (after : List FileName)
    → HaveMoments files dated → names_of dated ≡ before ++ name ∷ after
    → (header : LtxHeader) × IsHeaderUnder files name header
moment_at files [] before name after moments e = absurd (some_name before name after e)
moment_at files (d ∷ dated) [] name after moments e = let same : d.name ≡ name = cc in
    (moments.0.0, subst (λ (n : FileName). IsHeaderUnder files n moments.0.0) same moments.0.1)
moment_at files (d ∷ dated) (b ∷ before) name after moments e = let rest : names_of dated ≡ before ++ name ∷ after =
    cc in moment_at files dated before name after moments.1 rest

pub all_headers_good : Laws → (files : Files) (names : List FileName) (dated : List Dated) (name : FileName)
    (damage : Damage) → AreDated files names dated → IsFirstBadHeader files names name damage → ⊥
all_headers_good laws files names dated name damage are bad =
    let found = moment_at files dated (names_of bad.before) name bad.after are.moments (are.names_are ∙ bad.split) in
    good_or_bad laws files name found.0 damage found.1 bad.damaged
