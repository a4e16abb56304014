pub mod LooseKind
pub mod LongestWays
pub mod LooseSmallTerms
