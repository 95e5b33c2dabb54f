use Rattle.details.proofs.search.tells_with.Goals as goal

pub returns : goal.returns
returns c = rw (c.mask_bit-fixed.ensures, c.mask_bit-one.ensures, c.mask_bit-other_fixed.ensures, c.mask_bit-other_one.ensures)
