-- `frames::frame_at` meets its contract. Assumes nothing.
use Rattle.frames.specs.Frames.{frame_at}
use Rattle.frames.proofs.frame_at.Goals as goal

pub returns-clause-found : goal.returns-clause-found
unfolding frame_at
returns-clause-found c = c.headed_at.ensures.found
