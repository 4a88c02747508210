pub mod FlatTree
pub mod FlatForms
pub mod FlatView
pub mod FlatFormulas
pub mod FlatParts
pub mod laws
pub mod FlatTruth
pub mod FlatWidth
