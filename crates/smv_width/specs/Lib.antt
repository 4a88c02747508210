pub mod SourceWidth
