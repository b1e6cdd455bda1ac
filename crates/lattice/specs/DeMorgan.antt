-- What a distributive De Morgan lattice on the numbers below n is: lattice_order's definition.
pub use Rattle.lattice_order.specs.DeMorgan.{reversed, MeetAt, DeMorganLattice}
