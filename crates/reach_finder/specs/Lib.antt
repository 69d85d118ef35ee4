pub mod Found
pub mod Shades
pub mod Traced
pub use Rattle.row_origin.specs.Origins
pub use Rattle.row_reach.specs.Reach
