use Rattle.std.proofs.Common.{◌≡◌, [], List, ℕ, length, sym, ap, subst, ◌∙◌}
use Rattle.crash_disk.specs.Files.{files_after}
use Rattle.ls_base.specs.PageSize.{lock_page}
use Rattle.ltx_format.specs.declared.header.LtxHeader.{LtxHeader}
use Rattle.ltx_reader.specs.Reader.{IsReaderOf, pages_left, pages_of}
use Rattle.replica_store.specs.Listing.{path_of}
use Rattle.page_cursors.specs.Opening.{doubt_of}
use Rattle.page_cursors.specs.Wanted.{Wants}
use Rattle.page_cursors.proofs.FoundLemmas.{left_for, taken_in, no_doubt}
use Rattle.page_cursors.proofs.ReaderLemmas.{at_path}
use Rattle.ltx_reader.specs.ReaderGiven.{GivesAtMost}
use Rattle.page_cursors.specs.Cursor.{bytes_of}
use Rattle.page_cursors.proofs.CostLemmas.{opened_takes, unopened_takes}
use Rattle.page_cursors.proofs.opening.open_file.Goals as goal

pub returns-in-Some-clause-found : goal.returns-in-Some-clause-found
returns-in-Some-clause-found g c = λ events told.
    let name = c.args.name.now in
    let reader = c.in-Ok.reader in
    let path = c.as_str.ensures ∙ c.write_name.ensures in
    let doubt = c.doubt.ensures ∙ ap (λ (h : LtxHeader). doubt_of h name c.args.size) c.header.ensures.value in
    left_for (files_after events) name c.args.size c.args.pages reader c.in-Some.damage
    (record {
      named = c.in-Ok.ensures.name ∙ path;
      reads = at_path events c.as_str.result.now (path_of name) (λ (bytes : List ℕ). IsReaderOf bytes reader) path
          (c.in-Ok.ensures.reads events told);
    })
    (sym doubt ∙ c.in-Some.is)

pub returns-clause-found : goal.returns-clause-found
returns-clause-found g c = λ events told.
    let name = c.args.name.now in
    let reader = c.in-Ok.reader in
    let path = c.as_str.ensures ∙ c.write_name.ensures in
    let doubt = c.doubt.ensures ∙ ap (λ (h : LtxHeader). doubt_of h name c.args.size) c.header.ensures.value in
    taken_in (files_after events) name c.args.size c.args.pages reader c.new.result
    (record {
      named = c.in-Ok.ensures.name ∙ path;
      reads = at_path events c.as_str.result.now (path_of name) (λ (bytes : List ℕ). IsReaderOf bytes reader) path
          (c.in-Ok.ensures.reads events told);
    })
    c.in-Ok.ensures.start.0
    (at_path events c.as_str.result.now (path_of name) (λ
    (bytes : List ℕ). pages_left bytes reader ≡ pages_of bytes) path
    (c.in-Ok.ensures.pages events told))
    (sym doubt ∙ no_doubt c.doubt.result c.in_default.not-Some)
    (subst (λ (h : LtxHeader). Wants (lock_page h.size) c.args.pages [] c.new.result) c.header.ensures.value
    c.new.ensures)

pub returns-in-Some-clause-costs : goal.returns-in-Some-clause-costs
returns-in-Some-clause-costs g c = λ events told.
    let name = c.args.name.now in
    let reader = c.in-Ok.reader in
    let bytes = bytes_of (files_after events) name in
    let path = c.as_str.ensures ∙ c.write_name.ensures in
    let reads = at_path events c.as_str.result.now (path_of name) (λ (bs : List ℕ). IsReaderOf bs reader) path
    (c.in-Ok.ensures.reads events told) in
    let opened = opened_takes bytes reader _ _ reads c.in-Ok.ensures.start.0 c.in-Ok.ensures.start.1
    (at_path events c.as_str.result.now (path_of name) (λ (bs : List ℕ). pages_left bs reader ≡ pages_of bs) path
    (c.in-Ok.ensures.pages events told)) c.begin.ensures.gave in
    (record { reads = record { named = c.in-Ok.ensures.name ∙ path; reads = reads }; count = opened.0 }, opened.1)

pub returns-clause-costs : goal.returns-clause-costs
returns-clause-costs g c = λ events told.
    let name = c.args.name.now in
    let reader = c.in-Ok.reader in
    let bytes = bytes_of (files_after events) name in
    let path = c.as_str.ensures ∙ c.write_name.ensures in
    let reads = at_path events c.as_str.result.now (path_of name) (λ (bs : List ℕ). IsReaderOf bs reader) path
    (c.in-Ok.ensures.reads events told) in
    let opened = opened_takes bytes reader _ _ reads c.in-Ok.ensures.start.0 c.in-Ok.ensures.start.1
    (at_path events c.as_str.result.now (path_of name) (λ (bs : List ℕ). pages_left bs reader ≡ pages_of bs) path
    (c.in-Ok.ensures.pages events told)) c.begin.ensures.gave in
    (record { reads = record { named = c.in-Ok.ensures.name ∙ path; reads = reads }; count = opened.0 }, opened.1)

pub returns-in-Err-Fault-clause-costs : goal.returns-in-Err-Fault-clause-costs
returns-in-Err-Fault-clause-costs g c = λ events told.
    let path = c.as_str.ensures ∙ c.write_name.ensures in (
      tt,
      unopened_takes (bytes_of (files_after events) c.args.name.now) _ _
          (at_path events c.as_str.result.now (path_of c.args.name.now) (λ (bs : List ℕ). GivesAtMost (length bs)
          (g.S.Disk.given c.args.store.now) (g.S.Disk.given c.begin.new.disk)) path
          (c.begin.ensures.gave_file events told)),
    )

pub returns-in-Err-Disk-clause-spends : goal.returns-in-Err-Disk-clause-spends
returns-in-Err-Disk-clause-spends g c = λ events told.
    let path = c.as_str.ensures ∙ c.write_name.ensures in
    unopened_takes (bytes_of (files_after events) c.args.name.now) _ _
    (at_path events c.as_str.result.now (path_of c.args.name.now) (λ (bs : List ℕ). GivesAtMost (length bs)
    (g.S.Disk.given c.args.store.now) (g.S.Disk.given c.begin.new.disk)) path (c.begin.ensures.gave_file events told))

pub returns-in-Err-Memory-clause-spends : goal.returns-in-Err-Memory-clause-spends
returns-in-Err-Memory-clause-spends g c = λ events told.
    let path = c.as_str.ensures ∙ c.write_name.ensures in
    unopened_takes (bytes_of (files_after events) c.args.name.now) _ _
    (at_path events c.as_str.result.now (path_of c.args.name.now) (λ (bs : List ℕ). GivesAtMost (length bs)
    (g.S.Disk.given c.args.store.now) (g.S.Disk.given c.begin.new.disk)) path (c.begin.ensures.gave_file events told))
