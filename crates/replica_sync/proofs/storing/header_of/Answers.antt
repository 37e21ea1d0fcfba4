use Rattle.replica_sync.proofs.storing.header_of.Goals as goal

pub returns-clause-header : goal.returns-clause-header
returns-clause-header c = record {
  size = c.requires.storable.size;
  some_page = c.requires.storable.some;
  small = c.requires.storable.small;
  from_first = c.requires.valid.from_first;
  in_order = c.requires.valid.in_order;
  max_fits = c.requires.valid.max_fits;
  moment_fits = c.ranges.moment.fits;
  place = c.requires.storable.place;
}
