pub mod Refused
pub mod Judged
pub mod Stated
pub mod LinesStand
pub mod Translated
pub mod Moxi
pub mod LiftedTraces
