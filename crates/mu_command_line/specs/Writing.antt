-- What writing a piece comes to.
pub use Rattle.mu_outside.specs.Written.{Wrote, WroteSome}
