pub mod Framing
pub mod PushedHeaderTaking
pub mod PushedHeaderHeads
pub mod PushedHeaderPolicies
pub mod PushedHeaderLaws
pub mod HopLimitAlike
pub mod AtSids
pub mod HopLimitLaws
