-- What is said along the whole run of a session: ledgers, stretches and fair turns.
-- No promise rests on this.
pub mod OneByte
pub mod Ledger
pub mod Stretch
pub mod LinkLedger
pub mod FewDots
pub mod Fair
