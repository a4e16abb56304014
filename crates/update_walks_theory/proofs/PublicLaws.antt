-- what crates above cite: the first and the last tables are those of the descriptions, and what walks by equal entries have in common
pub use Rattle.update_walks_theory.proofs.BetweenBetween.{first_looks, last_looks}
pub use Rattle.update_walks_theory.proofs.BetweenCases.{EachSame, same_each}
pub use Rattle.update_walks_theory.proofs.Same.{Split, split_same, stages_shown, routes_same, ends_same}
pub use Rattle.update_walks_theory.proofs.BetweenWalks.{places_same}
