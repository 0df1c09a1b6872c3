mod CountLemmas
mod HoldingLemmas
mod PairLemmas
mod Told
