-- what callers read, in this order
pub mod Listed
pub mod FixupsLeft
pub mod ListedViews
pub mod LabelViews
pub mod LocalFixupsLeft
pub mod MirrorViews
