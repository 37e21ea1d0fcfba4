use Rattle.wal_follow.proofs.MakesLemmas.{piece_page, piece_stays, whole_makes}
use Rattle.wal_follow.proofs.PieceLemmas.{piece_leads_on, piece_leads_from_rest, marks_have_their_view}
use Rattle.wal_follow.proofs.law.piece_laws.Goals as goal

pub returns-clause-leads_on : goal.returns-clause-leads_on
returns-clause-leads_on c = piece_leads_on

pub returns-clause-leads_from_rest : goal.returns-clause-leads_from_rest
returns-clause-leads_from_rest c = piece_leads_from_rest

pub returns-clause-stays : goal.returns-clause-stays
returns-clause-stays c = λ file log h earlier since start q change accepted split piece.
    piece_stays file log h earlier since q accepted split start change piece

pub returns-clause-views : goal.returns-clause-views
returns-clause-views c = λ file log h earlier since start q change p page accepted split piece found.
    piece_page file log h earlier since q accepted split start change piece p page found

pub returns-clause-whole : goal.returns-clause-whole
returns-clause-whole c = whole_makes

pub returns-clause-recorded : goal.returns-clause-recorded
returns-clause-recorded c = marks_have_their_view
