pub mod LooseLegs
pub mod LooseSids
pub mod LooseSteps
pub mod LooseLegsValue
pub mod LooseExecutions
pub mod LooseRealizes
pub mod LooseSmall
