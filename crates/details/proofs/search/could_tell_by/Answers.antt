use Rattle.details.proofs.search.could_tell_by.Goals as goal

pub returns : goal.returns
returns c = rw (c.mask_bit-fixed.ensures, c.mask_bit-other_fixed.ensures, c.is_star.ensures, c.is_star-2.ensures)
