pub mod Cases
pub mod Numbers
mod Past
mod Edge
mod MessageEdges
mod SessionEdges
mod EventEdges
mod ImageEdges
mod ExecuteOnlyEdges
mod BatchEdges
mod FaultEdges
mod PaddingEdges
mod RevisionEdges
