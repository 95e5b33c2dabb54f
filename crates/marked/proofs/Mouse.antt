-- The bus mouse of document 001, computed from its text.
-- Assumes nothing.
use Rattle.marked.specs.BusMouse.{bus_mouse, BusMouse}
use Rattle.marked.proofs.Computing.{computing}
use Rattle.marked.proofs.Rows.{one-computed}

pub bus_mouse_lem : BusMouse
unfolding computing bus_mouse
bus_mouse_lem = one-computed bus_mouse
