pub mod DecapJudging
