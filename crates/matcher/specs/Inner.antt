-- What serves contracts inside the engine only.
--     Cursors      where cursors stand on the lists of a volume, and how they move
--     Opened       a document of an accepted volume: its starts, and the first one behind a position
--     Blocks       the words of a block, of which a search takes a fifth again and again
--     Tables       the cursor of each variable of a plan
--     Order        orders of a pattern's variables, rarest first
--     Shortfall    what a predicate that fails needs
--     Settling     where a pattern's variables stand on the way to its least match
pub mod Cursors
pub mod Opened
pub mod Blocks
pub mod Tables
pub mod Order
pub mod Shortfall
pub mod Settling
