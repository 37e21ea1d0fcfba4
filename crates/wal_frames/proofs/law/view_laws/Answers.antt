use Rattle.std.proofs.Common.{◌∙◌, ap, List, ℕ}
use Rattle.wal_frames.specs.View.{frames_to}
use Rattle.wal_frames.proofs.MarkLemmas.{valid_is}
use Rattle.wal_frames.proofs.ViewLemmas.{is_view, view_by_front, frames_to_chunks, is_rest_view}
use Rattle.wal_frames.proofs.law.view_laws.Goals as goal

pub returns-clause-at_mark : goal.returns-clause-at_mark
returns-clause-at_mark c file log h mark e = is_view log h e file mark

pub returns-clause-front : goal.returns-clause-front
returns-clause-front c file a b mark is_mark same = view_by_front file a b mark is_mark same

pub returns-clause-frames : goal.returns-clause-frames
returns-clause-frames c log h mark e is_mark =
    ap (λ (frames : List (List ℕ)). frames_to h frames mark) (valid_is log h e) ∙ frames_to_chunks log h e mark is_mark

pub returns-clause-at_rest : goal.returns-clause-at_rest
returns-clause-at_rest c size file is_size = is_rest_view size file is_size
