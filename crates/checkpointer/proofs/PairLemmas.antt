-- Two files of a disk by their numbers, while their bytes change.
use Rattle.std.proofs.Common.{◌≡◌, ◌≢◌, ◌∙◌, ℕ, true, false, eqb, List, [], ◌∷◌, Option, Some, None, unwrap_or}
use Rattle.std.proofs.Common.{IsSome, sym, ap, subst, refl, inl, inr}
use Rattle.std.specs.FinMap.{get}
use Rattle.std.proofs.lemmas.Bool.{eq-eqb, ne_eqb}
use Rattle.crash_disk.specs.declared.event.Event.{Event}
use Rattle.crash_disk.specs.declared.event.Event.TheVariants.{Placed, Wrote, Cut, Synced}
use Rattle.crash_disk.specs.Files.{Files, files_after, file_at}
use Rattle.crash_disk.specs.FileState.{FileState, SomeOf, synced_file, written, resized, IsFileImage}
use Rattle.crash_disk.specs.Numbers.{number_at, numbers_at, file_of, changed_at}
use Rattle.crash_disk.specs.Images.{IsImageOf, MayStandAt, IsCrashImage}
use Rattle.crash_disk.proofs.ReadFiles.{bytes_by, file_at-numbered}
use Rattle.crash_disk.proofs.FileLaws.{file_at-Placed-here, file_at-Placed-other}
use Rattle.crash_disk.proofs.NumberLaws.{by_names}
use Rattle.crash_disk.proofs.DistinctNumbers.{number_at-distinct}
use Rattle.crash_disk.proofs.ImageLaws.{reads_as_image, MayStandAt-reads}
use Rattle.checkpointer.specs.PairState.{bytes_in, IsNamed, AreNamed}

-- ---- one file

-- the name has this number and had no other, and this is its file
pub record IsFile (events : List Event) (name : List ℕ) (n : ℕ) (file : FileState) : Type 0 where
  pub number : number_at events name ≡ Some n
  pub named : numbers_at events name ≡ Some n ∷ []
  pub is : file_of events n ≡ file

pub reads : (events : List Event) (name : List ℕ) (n : ℕ) (file : FileState) → IsFile events name n file
    → file_at events name ≡ Some file.bytes
reads events name n file f = file_at-numbered events name ∙ ap (bytes_by (file_of events)) f.number
    ∙ ap (λ (x : FileState). Some x.bytes) f.is

pub itself : (events : List Event) (name : List ℕ) (n : ℕ) (file : FileState) → IsFile events name n file
    → IsFileImage file file.bytes
itself events name n file f = subst (λ (x : FileState). IsFileImage x x.bytes) f.is (reads_as_image events n)

-- what a crash leaves at the name is an image of the file
pub record LeavesImage (file : FileState) (left : Option (List ℕ)) : Type 0 where
  pub bytes : List ℕ
  pub there : left ≡ Some bytes
  pub image : IsFileImage file bytes

image_of : (events : List Event) (n : ℕ) (file : FileState) (left : Option (List ℕ)) → file_of events n ≡ file
    → SomeOf (λ number. IsImageOf events number left) (Some n ∷ []) → LeavesImage file left
image_of events n file None e (inl is) = absurd is
image_of events n file None e (inr none) = absurd none
image_of events n file (Some bytes) e (inl is) = record
    { bytes = bytes; there = refl; image = subst (λ (x : FileState). IsFileImage x bytes) e is }
image_of events n file (Some bytes) e (inr none) = absurd none

pub leaves_image : (events : List Event) (name : List ℕ) (n : ℕ) (file : FileState) (image : Files)
    → IsFile events name n file → IsCrashImage events image → LeavesImage file (get image name)
leaves_image events name n file image f is =
    image_of events n file (get image name) f.is
    (subst (λ (numbers : List (Option ℕ)). SomeOf (λ number. IsImageOf events number (get image name)) numbers)
    f.named (is.each name).one)

pub may_stand : (events : List Event) (name : List ℕ) (n : ℕ) (file : FileState) (bytes : List ℕ)
    → IsFile events name n file → IsFileImage file bytes → MayStandAt events name (Some bytes)
may_stand events name n file bytes f image = record {
  one = subst (λ (numbers : List (Option ℕ)). SomeOf (λ number. IsImageOf events number (Some bytes)) numbers)
      (sym f.named) (inl (subst (λ (x : FileState). IsFileImage x bytes) (sym f.is) image));
}

-- ---- one change of it, and of another

module _ (number : Option ℕ) (n : ℕ) (is : number ≡ Some n) (f : FileState → FileState) (file : FileState) where
  changed_here : changed_at number f n file ≡ f file
  changed_here = let test : eqb n n ≡ true = eq-eqb n n refl in rw (is, test) refl

  changed_elsewhere : (k : ℕ) → k ≢ n → changed_at number f k file ≡ file
  changed_elsewhere k other = let test : eqb k n ≡ false = ne_eqb k n other in rw (is, test) refl

module _ (events : List Event) (name : List ℕ) (n : ℕ) (file : FileState) (f : IsFile events name n file) where
  pub file-Synced : IsFile (Synced name ∷ events) name n (synced_file file.bytes)
  unfolding number_at numbers_at file_of
  file-Synced = record {
    number = f.number;
    named = f.named;
    is = changed_here (number_at events name) n f.number (λ file. synced_file file.bytes) (file_of events n)
        ∙ ap (λ (x : FileState). synced_file x.bytes) f.is;
  }

  pub file-Wrote : (at : ℕ) (bytes : List ℕ) → IsFile (Wrote name at bytes ∷ events) name n (written at bytes file)
  unfolding number_at numbers_at file_of
  file-Wrote at bytes =
      record {
        number = f.number;
        named = f.named;
        is = changed_here (number_at events name) n f.number
            (written at bytes) (file_of events n) ∙ ap (written at bytes) f.is;
      }

  pub file-Cut : (size : ℕ) → IsFile (Cut name size ∷ events) name n (resized size file)
  unfolding number_at numbers_at file_of
  file-Cut size =
      record {
        number = f.number;
        named = f.named;
        is = changed_here (number_at events name) n f.number (resized size)
            (file_of events n) ∙ ap (resized size) f.is;
      }

  module _ (other : List ℕ) (k : ℕ) (another : FileState) (g : IsFile events other k another) (apart : k ≢ n) where
    pub other-Synced : IsFile (Synced name ∷ events) other k another
    unfolding number_at numbers_at file_of
    other-Synced =
        record {
          number = g.number;
          named = g.named;
          is = changed_elsewhere (number_at events name) n f.number
              (λ file. synced_file file.bytes) (file_of events k) k apart ∙ g.is;
        }

    pub other-Wrote : (at : ℕ) (bytes : List ℕ) → IsFile (Wrote name at bytes ∷ events) other k another
    unfolding number_at numbers_at file_of
    other-Wrote at bytes = record {
      number = g.number;
      named = g.named;
      is = changed_elsewhere (number_at events name)
          n f.number (written at bytes) (file_of events k) k apart ∙ g.is;
    }

    pub other-Cut : (size : ℕ) → IsFile (Cut name size ∷ events) other k another
    unfolding number_at numbers_at file_of
    other-Cut size = record {
      number = g.number;
      named = g.named;
      is = changed_elsewhere (number_at events name) n
          f.number (resized size) (file_of events k) k apart ∙ g.is;
    }

-- ---- the pair

pub record HasPair (events : List Event) (db wal : List ℕ) (d w : FileState) : Type 0 where
  pub n : ℕ
  pub k : ℕ
  pub database : IsFile events db n d
  pub log : IsFile events wal k w
  pub apart : n ≢ k

module _ (events : List Event) (db wal : List ℕ) (d w : FileState) (p : HasPair events db wal d w) where
  turned : p.k ≢ p.n
  turned e = p.apart (sym e)

  pub pair-Synced_log : HasPair (Synced wal ∷ events) db wal d (synced_file w.bytes)
  pair-Synced_log = record {
    n = p.n;
    k = p.k;
    database = other-Synced events wal p.k w p.log db p.n d p.database
        p.apart;
    log = file-Synced events wal p.k w p.log;
    apart = p.apart;
  }

  pub pair-Synced : HasPair (Synced db ∷ events) db wal (synced_file d.bytes) w
  pair-Synced = record {
    n = p.n;
    k = p.k;
    database = file-Synced events db p.n d p.database;
    log = other-Synced
        events db p.n d p.database wal p.k w p.log turned;
    apart = p.apart;
  }

  pub pair-Wrote : (at : ℕ) (bytes : List ℕ) → HasPair (Wrote db at bytes ∷ events) db wal (written at bytes d) w
  pair-Wrote at bytes =
      record {
        n = p.n;
        k = p.k;
        database = file-Wrote events db p.n d p.database at bytes;
        log = other-Wrote events
            db p.n d p.database wal p.k w p.log turned at bytes;
        apart = p.apart;
      }

  pub pair-Cut : (size : ℕ) → HasPair (Cut db size ∷ events) db wal (resized size d) w
  pair-Cut size = record {
    n = p.n;
    k = p.k;
    database = file-Cut events db p.n d p.database size;
    log = other-Cut
        events db p.n d p.database wal p.k w p.log turned size;
    apart = p.apart;
  }

  pub pair-Cut_log : (size : ℕ) → HasPair (Cut wal size ∷ events) db wal d (resized size w)
  pair-Cut_log size = record {
    n = p.n;
    k = p.k;
    database = other-Cut events wal p.k w p.log db p.n d p.database
        p.apart size;
    log = file-Cut events wal p.k w p.log size;
    apart = p.apart;
  }

-- where the names are there and synced, they have numbers
pub record HasFile (events : List Event) (name : List ℕ) : Type 0 where
  pub n : ℕ
  pub file : FileState
  pub is : IsFile events name n file

numbered : (events : List Event) (name : List ℕ) (number : Option ℕ) → number_at events name ≡ number
    → IsNamed events name → HasFile events name
numbered events name None none named =
    let absent : file_at events name ≡ None = file_at-numbered events name ∙ ap (bytes_by (file_of events)) none in
    let found : false ≡ true = rw absent at named.there.there in
    absurd cc
numbered events name (Some n) some named = record {
  n = n;
  file = file_of events n;
  is = record
      { number = some; named = named.synced ∙ ap (λ (x : Option ℕ). x ∷ []) some; is = refl };
}

pub has_file : (events : List Event) (name : List ℕ) → IsNamed events name → HasFile events name
has_file events name named = numbered events name (number_at events name) refl named

-- the two files of a disk, at names that differ
pub record IsPair (events : List Event) (db wal : List ℕ) : Type 0 where
  pub d : FileState
  pub w : FileState
  pub pair : HasPair events db wal d w

pub has_pair : (events : List Event) (db wal : List ℕ) → db ≢ wal → AreNamed events db wal → IsPair events db wal
has_pair events db wal apart named =
    let database = has_file events db named.database in
    let log = has_file events wal named.log in
    record {
      d = database.file;
      w = log.file;
      pair = record {
        n = database.n;
        k = log.n;
        database = database.is;
        log = log.is;
        apart = λ same. apart (number_at-distinct events db wal database.n database.is.number
            (log.is.number ∙ ap (λ (x : ℕ). Some x) (sym same)));
      };
    }

-- and the other way round
pub is_named : (events : List Event) (name : List ℕ) (n : ℕ) (file : FileState) → IsFile events name n file
    → IsNamed events name
is_named events name n file f = record {
  there = record { there = subst (λ (x : Option (List ℕ)). IsSome x) (sym (reads events name n file f)) refl };
  synced = f.named ∙ ap (λ (x : Option ℕ). x ∷ []) (sym f.number);
}

-- ---- what a crash left before, with other bytes of the database

pub record OldImage (events : List Event) (db wal bytes log : List ℕ) : Type 0 where
  pub files : Files
  pub is : IsCrashImage events files
  pub database : bytes_in files db ≡ bytes
  pub log_is : bytes_in files wal ≡ log

pub old_image : (events : List Event) (db wal : List ℕ) (d w : FileState) (bytes : List ℕ) → db ≢ wal
    → HasPair events db wal d w → IsFileImage d bytes → OldImage events db wal bytes w.bytes
old_image events db wal d w bytes apart p image =
    let placed = Placed db bytes ∷ events in
    let other : (q : List ℕ) → q ≢ db → file_at placed q ≡ file_at events q = λ q not. file_at-Placed-other events db
    bytes q not in
    record {
      files = files_after placed;
      is = record {
        each = λ q. by_names q db
            (λ same. subst (λ (x : List ℕ). MayStandAt events x (file_at placed x)) (sym same)
            (subst (λ (left : Option (List ℕ)). MayStandAt events db left)
            (sym (file_at-Placed-here events db bytes)) (may_stand events db p.n d bytes p.database image)))
            (λ not. subst (λ (left : Option (List ℕ)). MayStandAt events q left) (sym (other q not))
            (MayStandAt-reads events q));
      };
      database = ap (λ (left : Option (List ℕ)). unwrap_or left []) (file_at-Placed-here events db bytes);
      log_is = ap (λ (left : Option (List ℕ)). unwrap_or left [])
          (other wal (λ same. apart (sym same)) ∙ reads events wal p.k w p.log);
    }

-- and with other bytes of both
pub both_image : (events : List Event) (db wal : List ℕ) (d w : FileState) (bytes log : List ℕ) → db ≢ wal
    → HasPair events db wal d w → IsFileImage d bytes → IsFileImage w log → OldImage events db wal bytes log
both_image events db wal d w bytes log apart p image logged =
    let first = Placed db bytes ∷ events in
    let placed = Placed wal log ∷ first in
    let other : (q : List ℕ) → q ≢ wal → file_at placed q ≡ file_at first q = λ q not. file_at-Placed-other first wal
    log q not in
    let database_is : file_at placed db ≡ Some bytes = other db apart ∙ file_at-Placed-here events db bytes in
    record {
      files = files_after placed;
      is = record {
        each = λ q. by_names q wal
            (λ same. subst (λ (x : List ℕ). MayStandAt events x (file_at placed x)) (sym same)
            (subst (λ (left : Option (List ℕ)). MayStandAt events wal left)
            (sym (file_at-Placed-here first wal log)) (may_stand events wal p.k w log p.log logged)))
            (λ not. by_names q db
            (λ same. subst (λ (x : List ℕ). MayStandAt events x (file_at placed x)) (sym same)
            (subst (λ (left : Option (List ℕ)). MayStandAt events db left) (sym database_is)
            (may_stand events db p.n d bytes p.database image)))
            (λ unlike. subst (λ (left : Option (List ℕ)). MayStandAt events q left)
            (sym (other q not ∙ file_at-Placed-other events db bytes q unlike)) (MayStandAt-reads events q)));
      };
      database = ap (λ (left : Option (List ℕ)). unwrap_or left []) database_is;
      log_is = ap (λ (left : Option (List ℕ)). unwrap_or left []) (file_at-Placed-here first wal log);
    }
