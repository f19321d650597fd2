-- What serves contracts inside the engine only.
--     Bounds        matches that stand at bounds or behind, and what a predicate needs
--     Paragraphs    the first start of a document, and the start that SAME TITLE needs
pub mod Bounds
pub mod Paragraphs
