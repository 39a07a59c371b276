-- To be believed: Layout.
-- Theorems: LayoutLaws.
pub mod Layout
pub mod LayoutLaws
